-- The walk, a turn at a time, and the loop that takes the turns: what is left of the walk, behind the records passed, is the whole walk.
use Prim.Native.Nat.{ℕ, zero, suc, ◌+◌, ◌-◌, ◌≤◌, ◌<◌}
use mathlib.Core.Path.{◌≡◌, ap, ◌∙◌}
use mathlib.Core.List.{List}
use mathlib.Core.Bool.{Bool, true, false}
use native.Mathlib.Omega.{arith}
use native.Mathlib.Nat.{zero-add}
use lib.ListN.{length, drop, length-drop}
use lib.Seq.{drop-drop}
use Rattle.std.specs.Prelude.{Ok, Err}
use Rattle.turns.specs.declared.Stop.{Stop}
use Rattle.turns.specs.declared.Stop.TheVariants.{Pause}
use Rattle.turns.proofs.TurnLaws.{pass_long}
use Rattle.ahead.proofs.LineLaws.{rest, rest_is}
use Rattle.walk.specs.State.{good_state, next_due}
use Rattle.walk.specs.Walk.{turn_of, next_of, stopped, more, bad_stop, walk_of}
use Rattle.walk.specs.declared.State.{State}
use Rattle.walk.specs.declared.Walked.{Walked}

module _ (st : State) (b : List ℕ) (c : Bool) where
  pub walk_bad : (f : ℕ) → good_state st ≡ false → walk_of f st b c ≡ stopped st bad_stop
  unfolding walk_of
  walk_bad zero h = simp h
  walk_bad (suc f) h = simp h

  pub walk_pause : good_state st ≡ true → walk_of 0 st b c ≡ stopped st Pause
  unfolding walk_of
  walk_pause h = simp h

  pub walk_halt : (f : ℕ) (x : Stop) → good_state st ≡ true → turn_of st b c ≡ Err x → walk_of (suc f) st b c ≡ stopped st x
  unfolding walk_of
  walk_halt f x h t = simp (h, t)

  pub walk_pass : (f : ℕ) → good_state st ≡ true → turn_of st b c ≡ Ok tt →
      walk_of (suc f) st b c ≡ more 1 (walk_of f (next_of st b) (drop (next_due st).length b) c)
  unfolding walk_of
  walk_pass f h t = simp (h, t)

-- counts add up
pub more_more : (n c : ℕ) (w : Walked) → more n (more c w) ≡ more (n + c) w
more_more n c w = ap (λ (k : ℕ). record { state = w.state; count = k; stop = w.stop }) (let e : w.count + c + n ≡ w.count + (n + c) = omega arith in e)

pub more_none : (w : Walked) → w ≡ more 0 w
more_none w = ap (λ (k : ℕ). record { state = w.state; count = k; stop = w.stop }) (let e : w.count ≡ w.count + 0 = omega arith in e)

more_stopped : (n : ℕ) (st : State) (x : Stop) → more n (stopped st x) ≡ record { state = st; count = n; stop = x }
more_stopped n st x = ap (λ (k : ℕ). record { state = st; count = k; stop = x }) (zero-add n)

less_one : (m n : ℕ) → n < m → m - n ≡ suc (m - (n + 1))
less_one m n h = omega arith

module _ (m n at : ℕ) (st : State) (b : List ℕ) (c : Bool) where
  pub turn_halt : (x : Stop) → n < m → good_state st ≡ true → turn_of st (rest b at) c ≡ Err x
      → more n (walk_of (m - n) st (drop at b) c) ≡ record { state = st; count = n; stop = x }
  turn_halt x h g t =
      ap (λ (f : ℕ). more n (walk_of f st (drop at b) c)) (less_one m n h)
      ∙ ap (more n) (walk_halt st (drop at b) c (m - (n + 1)) x g (rw (rest_is b at) at t))
      ∙ more_stopped n st x

  pub turn_pass : (long : ℕ) (st' : State) → n < m → good_state st ≡ true → turn_of st (rest b at) c ≡ Ok tt → long ≡ (next_due st).length → st' ≡ next_of st
      (rest b at)
      → more n (walk_of (m - n) st (drop at b) c) ≡ more (n + 1) (walk_of (m - (n + 1)) st' (drop (at + long) b) c)
  turn_pass long st' h g t e q =
      ap (λ (f : ℕ). more n (walk_of f st (drop at b) c)) (less_one m n h)
      ∙ ap (more n) (walk_pass st (drop at b) c (m - (n + 1)) g (rw (rest_is b at) at t))
      ∙ more_more n 1 (walk_of (m - (n + 1)) (next_of st (drop at b)) (drop (next_due st).length (drop at b)) c)
      ∙ rw (q, rest_is b at, e, ← drop-drop)

  pub pass_room : (long : ℕ) → at ≤ length b → turn_of st (rest b at) c ≡ Ok tt → long ≡ (next_due st).length → at + long ≤ length b
  pass_room long h t e =
      omega (arith, pass_long st.kind st.plan st.passed (next_due st) (drop at b) c (rw (rest_is b at) at t), length-drop at b)

  pub walk_end : m ≤ n → good_state st ≡ true → more n (walk_of (m - n) st (drop at b) c) ≡ record { state = st; count = n; stop = Pause }
  walk_end h g =
      let z : m - n ≡ 0 = omega arith in
      ap (λ (f : ℕ). more n (walk_of f st (drop at b) c)) z ∙ ap (more n) (walk_pause st (drop at b) c g) ∙ more_stopped n st Pause
