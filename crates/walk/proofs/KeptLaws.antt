-- What every record that passes keeps of the state, the walk keeps, by induction over its budget: that the state is good, and the kind.
use Prim.Native.Nat.{ℕ, zero, suc}
use mathlib.Core.Path.{◌≡◌, refl, sym, ◌∙◌, subst}
use mathlib.Core.List.{List}
use mathlib.Core.Bool.{Bool, true}
use mathlib.Core.Logic.{⊎_elim}
use lib.ListN.{drop}
use Rattle.std.specs.Prelude.{Ok, Err}
use Rattle.words.proofs.Laws.{cases}
use Rattle.walk.specs.State.{good_state, next_due}
use Rattle.walk.specs.Walk.{turn_of, next_of, walk_of}
use Rattle.walk.specs.declared.State.{State}
use Rattle.turns.specs.Turn.{Turn}
use Rattle.walk.specs.declared.Walked.{Walked}
use Rattle.walk.proofs.LoopLaws.{walk_bad, walk_pause, walk_halt, walk_pass}
use Rattle.walk.proofs.TurnLaws.{good_next}

module _ (P : State → Type 0) (c : Bool)
    (next : (st : State) (b : List ℕ) → good_state st ≡ true → turn_of st b c ≡ Ok tt → P st → P (next_of st b))
  where
    pub kept : (n : ℕ) (st : State) (b : List ℕ) → P st → P (walk_of n st b c).state
    kept zero st b p =
        ⊎_elim (λ g. subst (λ (w : Walked). P w.state) (sym (walk_pause st b c g)) p)
        (λ g. subst (λ (w : Walked). P w.state) (sym (walk_bad st b c 0 g)) p) (cases (good_state st))
    kept (suc n) st b p =
        ⊎_elim (λ g. go g (kept n (next_of st b) (drop (next_due st).length b)) (turn_of st b c) refl)
        (λ g. subst (λ (w : Walked). P w.state) (sym (walk_bad st b c (suc n) g)) p) (cases (good_state st))
      where
        go : good_state st ≡ true → (P (next_of st b) → P (walk_of n (next_of st b) (drop (next_due st).length b) c).state) → (t : Turn) → turn_of st b c ≡ t
            → P (walk_of (suc n) st b c).state
        go g ih (Ok u) t = subst (λ (w : Walked). P w.state) (sym (walk_pass st b c n g t)) (ih (next st b g t p))
        go g ih (Err x) t = subst (λ (w : Walked). P w.state) (sym (walk_halt st b c n x g t)) p

pub good_kept : (n : ℕ) (st : State) (b : List ℕ) (c : Bool) → good_state st ≡ true → good_state (walk_of n st b c).state ≡ true
good_kept n st b c g = kept (λ s. good_state s ≡ true) c (λ s y h t q. good_next s y c h t) n st b g

pub next_kind : (st : State) (b : List ℕ) → (next_of st b).kind ≡ st.kind
unfolding next_of
next_kind st b = refl

pub kind_kept : (n : ℕ) (st : State) (b : List ℕ) (c : Bool) → (walk_of n st b c).state.kind ≡ st.kind
kind_kept n st b c = kept (λ s. s.kind ≡ st.kind) c (λ s y h t q. next_kind s y ∙ q) n st b refl
