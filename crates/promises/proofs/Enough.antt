-- A budget above the planned total never pauses: a pause has passed as many records as the budget, and a good state no more than are planned.
use Prim.Native.Nat.{ℕ, ◌+◌, ◌≤◌, ◌<◌}
use mathlib.Core.Path.{◌≡◌, sym, ap, ◌∙◌, subst}
use mathlib.Core.Logic.{◌≢◌, ⊎_elim}
use mathlib.Core.List.{List}
use mathlib.Core.Bool.{Bool, true, false}
use native.Mathlib.Omega.{arith}
use Rattle.words.proofs.Laws.{cases}
use Rattle.plan.specs.Plan.{total_of}
use Rattle.walk.specs.State.{good_state, fresh}
use Rattle.walk.specs.Walk.{walk_of}
use Rattle.walk.specs.declared.State.{State}
use Rattle.turns.specs.declared.Stop.TheVariants.{Pause}
use Rattle.walk.specs.declared.Walked.{Walked}
use Rattle.walk.proofs.GoodLaws.{good_later}
use Rattle.promises.proofs.Turns.{refused≢pause}
use Rattle.walk.proofs.KeptLaws.{kind_kept, good_kept}
use Rattle.promises.proofs.Counted.{counted, bad_kept, pause_counted}

-- any state: a budget that goes past what the plan handed back has left
pub enough_left : (b : ℕ) (st : State) (bs : List ℕ) (c : Bool) → total_of st.kind (walk_of b st bs c).state.plan < st.passed + b
    → (walk_of b st bs c).stop ≢ Pause
enough_left b st bs c l e = ⊎_elim good bad (cases (good_state st))
  where
    bad : good_state st ≡ false → ⊥
    bad g = refused≢pause (sym (ap (λ (w : Walked). w.stop) (bad_kept b st bs c g)) ∙ e)

    good : good_state st ≡ true → ⊥
    good g =
        let n : (walk_of b st bs c).count ≡ b = pause_counted b st bs c e in
        let p : (walk_of b st bs c).state.passed ≡ st.passed + (walk_of b st bs c).count = counted b st bs c in
        let some : (walk_of b st bs c).state.passed ≡ 0 → ⊥ = λ z. omega arith in
        let t = (good_later (walk_of b st bs c).state (good_kept b st bs c g) some).1 in
        let u : (walk_of b st bs c).state.passed ≤ total_of st.kind (walk_of b st bs c).state.plan =
        subst (λ (k : ℕ). (walk_of b st bs c).state.passed ≤ total_of k (walk_of b st bs c).state.plan) (kind_kept b st bs c) t in
        omega arith

-- from a fresh state of any kind, open or closed: a budget above the planned total of the state handed back, which is at least 1
pub enough : (kind b : ℕ) (bs : List ℕ) (c : Bool) → total_of kind (walk_of b (fresh kind) bs c).state.plan < b
    → (walk_of b (fresh kind) bs c).stop ≢ Pause
enough kind b bs c l = enough_left b (fresh kind) bs c (omega arith)
