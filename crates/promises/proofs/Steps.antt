-- What holds of a walk is shown turn by turn: at a bad state, where the budget is used up, where a turn halts, and behind a record that passed.
use Prim.Native.Nat.{ℕ, zero, suc, ◌+◌}
use mathlib.Core.Path.{◌≡◌, refl, sym, subst₂}
use mathlib.Core.List.{List}
use mathlib.Core.Bool.{Bool, true, false}
use mathlib.Core.Logic.{⊎_elim}
use lib.ListN.{drop}
use Rattle.std.specs.Prelude.{Ok, Err}
use Rattle.words.proofs.Laws.{cases}
use Rattle.walk.specs.State.{good_state, next_due}
use Rattle.walk.specs.Walk.{turn_of, next_of, stopped, more, bad_stop, walk_of}
use Rattle.walk.specs.declared.State.{State}
use Rattle.turns.specs.Turn.{Turn}
use Rattle.turns.specs.declared.Stop.{Stop}
use Rattle.turns.specs.declared.Stop.TheVariants.{Pause}
use Rattle.walk.specs.declared.Walked.{Walked}
use Rattle.walk.proofs.LoopLaws.{walk_bad, walk_pause, walk_halt, walk_pass}
use Rattle.promises.specs.Pieces.{used_of}

module _ (st : State) (b : List ℕ) (c : Bool) where
  pub used_bad : (n : ℕ) → good_state st ≡ false → used_of n st b c ≡ 0
  unfolding used_of
  used_bad zero h = refl
  used_bad (suc n) h = simp h

  pub used_none : used_of 0 st b c ≡ 0
  unfolding used_of
  used_none = refl

  pub used_halt : (n : ℕ) (x : Stop) → good_state st ≡ true → turn_of st b c ≡ Err x → used_of (suc n) st b c ≡ 0
  unfolding used_of
  used_halt n x h t = simp (h, t)

  pub used_pass : (n : ℕ) → good_state st ≡ true → turn_of st b c ≡ Ok tt
      → used_of (suc n) st b c ≡ (next_due st).length + used_of n (next_of st b) (drop (next_due st).length b) c
  unfolding used_of
  used_pass n h t = simp (h, t)

-- P of a budget, a state, bytes, the walk's answer and the bytes that it passed
module _ (c : Bool) (P : ℕ → State → List ℕ → Walked → ℕ → Type 0)
    (bad : (n : ℕ) (st : State) (b : List ℕ) → good_state st ≡ false → P n st b (stopped st bad_stop) 0)
    (pause : (st : State) (b : List ℕ) → good_state st ≡ true → P 0 st b (stopped st Pause) 0)
    (halt : (n : ℕ) (st : State) (b : List ℕ) (x : Stop) → good_state st ≡ true → turn_of st b c ≡ Err x → P (suc n) st b (stopped st x) 0)
    (pass : (n : ℕ) (st : State) (b : List ℕ) (w : Walked) (u : ℕ) → good_state st ≡ true → turn_of st b c ≡ Ok tt
    → P n (next_of st b) (drop (next_due st).length b) w u → P (suc n) st b (more 1 w) ((next_due st).length + u))
  where
    pub by_turns : (n : ℕ) (st : State) (b : List ℕ) → P n st b (walk_of n st b c) (used_of n st b c)
    by_turns zero st b =
        ⊎_elim
        (λ g. subst₂ (λ (w : Walked) (u : ℕ). P 0 st b w u) (sym (walk_pause st b c g)) (sym (used_none st b c)) (pause st b g))
        (λ g. subst₂ (λ (w : Walked) (u : ℕ). P 0 st b w u) (sym (walk_bad st b c 0 g)) (sym (used_bad st b c 0 g)) (bad 0 st b g))
        (cases (good_state st))
    by_turns (suc n) st b =
        ⊎_elim
        (λ g. go (by_turns n (next_of st b) (drop (next_due st).length b)) g (turn_of st b c) refl)
        (λ g. subst₂ (λ (w : Walked) (u : ℕ). P (suc n) st b w u) (sym (walk_bad st b c (suc n) g)) (sym (used_bad st b c (suc n) g)) (bad (suc n) st b g))
        (cases (good_state st))
      where
        go : P n (next_of st b) (drop (next_due st).length b) (walk_of n (next_of st b) (drop (next_due st).length b) c)
            (used_of n (next_of st b) (drop (next_due st).length b) c)
            → good_state st ≡ true → (t : Turn) → turn_of st b c ≡ t → P (suc n) st b (walk_of (suc n) st b c) (used_of (suc n) st b c)
        go ih g (Ok u) t =
            subst₂ (λ (w : Walked) (u : ℕ). P (suc n) st b w u) (sym (walk_pass st b c n g t)) (sym (used_pass st b c n g t)) (pass n st b _ _ g t ih)
        go ih g (Err x) t =
            subst₂ (λ (w : Walked) (u : ℕ). P (suc n) st b w u) (sym (walk_halt st b c n x g t)) (sym (used_halt st b c n x g t)) (halt n st b x g t)
