-- A refusal by an open call is final: the same whole answer for any further bytes, any larger budget and when the file is closed; each turn of the
-- call looks only at bytes that were there.
use Prim.Native.Nat.{ℕ, suc, ◌+◌}
use mathlib.Core.Path.{◌≡◌, refl, sym, ap, ◌∙◌}
use mathlib.Core.Logic.{◌≢◌}
use mathlib.Core.List.{List, ◌++◌}
use mathlib.Core.Bool.{Bool, true, false}
use native.Mathlib.Nat.{suc-add}
use lib.ListN.{drop}
use Rattle.std.specs.Prelude.{Ok, Err}
use Rattle.words.specs.declared.Refusal.{Refusal}
use Rattle.walk.specs.State.{good_state, next_due}
use Rattle.walk.specs.Walk.{turn_of, next_of, stopped, more, walk_of}
use Rattle.walk.specs.declared.State.{State}
use Rattle.turns.specs.declared.Stop.{Stop}
use Rattle.turns.specs.declared.Stop.TheVariants.{Pause, Refused}
use Rattle.walk.specs.declared.Walked.{Walked}
use Rattle.walk.proofs.LoopLaws.{walk_bad, walk_halt, walk_pass}
use Rattle.promises.proofs.Steps.{by_turns}
use Rattle.promises.proofs.Turns.{turn_refusal_stays, turn_pass_stays, next_stays, rest_stays, pause≢refused}

-- a call's answer w that is a refusal stays for further bytes, more budget and either closing
Stays : ℕ → State → List ℕ → Walked → ℕ → Type 0
Stays n st b w u = (x : Refusal) → w.stop ≡ Refused x → (ys : List ℕ) (c : Bool) (d : ℕ) → walk_of (n + d) st (b ++ ys) c ≡ w

module _ (n : ℕ) (st : State) (b : List ℕ) (g : good_state st ≡ true) where
  stays_halt : (z : Stop) → turn_of st b false ≡ Err z → Stays (suc n) st b (stopped st z) 0
  unfolding Stays
  stays_halt z t x e ys c d =
      rw suc-add
      (walk_halt st (b ++ ys) c (n + d) z g (turn_refusal_stays st b ys c x (t ∙ ap Err e) ∙ ap Err (sym e)))

  stays_pass : (w : Walked) (u : ℕ) → turn_of st b false ≡ Ok tt → Stays n (next_of st b) (drop (next_due st).length b) w u
      → Stays (suc n) st b (more 1 w) ((next_due st).length + u)
  unfolding Stays
  stays_pass w u t ih x e ys c d =
      rw suc-add
      (walk_pass st (b ++ ys) c (n + d) g (turn_pass_stays st b ys c t)
      ∙ rw (next_stays st b ys t, rest_stays st b ys t, ih x e ys c d))

-- for any state handed in
pub refusal_stays : (b : ℕ) (st : State) (bs : List ℕ) (x : Refusal) → (walk_of b st bs false).stop ≡ Refused x
    → (ys : List ℕ) (c : Bool) (d : ℕ) → walk_of (b + d) st (bs ++ ys) c ≡ walk_of b st bs false
unfolding Stays
refusal_stays b st bs =
    by_turns false Stays (λ n s y g x e ys c d. walk_bad s (y ++ ys) c (n + d) g) (λ s y g x e ys c d. absurd (pause≢refused e))
    (λ n s y z g t. stays_halt n s y g z t) (λ n s y w u g t i. stays_pass n s y g w u t i) b st bs

-- a call that does not pause says the same with any larger budget, open or closed
pub budget_stays : (b : ℕ) (st : State) (bs : List ℕ) (c : Bool) → (walk_of b st bs c).stop ≢ Pause → (d : ℕ) → walk_of (b + d) st bs c ≡ walk_of b st bs c
budget_stays b st bs c =
    by_turns c (λ n s y w u. w.stop ≢ Pause → (d : ℕ) → walk_of (n + d) s y c ≡ w) (λ n s y g h d. walk_bad s y c (n + d) g)
    (λ s y g h d. absurd (h refl)) (λ n s y x g t h d. rw suc-add (walk_halt s y c (n + d) x g t))
    (λ n s y w u g t i h d. rw suc-add (walk_pass s y c (n + d) g t ∙ ap (more 1) (i h d))) b st bs
