-- The state rule by its cases, and what a good state gives the arithmetic of a turn: by the bounds that `plan` shows of each plan that the rules allow.
use Prim.Native.Nat.{ℕ, ◌≤◌}
use mathlib.Core.Path.{◌≡◌, refl, sym, ◌∙◌}
use mathlib.Core.Bool.{true}
use mathlib.Core.Logic.{⊎_elim}
use native.Mathlib.Omega.{arith}
use lib.Dec.{eqb, leb}
use borrow.Author.Tests.{eq-eqb, ne_eqb, eqb-true, eqb-false, leb-true}
use Rattle.words.specs.Tests.{both_of, within_of}
use Rattle.words.proofs.Laws.{both_l, both_r, both_make, true_within, cases}
use Rattle.plan.specs.Plan.{all_zero, zero_plan?, plan_good, total_of}
use Rattle.plan.proofs.Bounds.{small_good, small_zero}
use Rattle.walk.specs.State.{fresh, good_state, Ready}
use Rattle.walk.specs.declared.State.{State}

module _ (st : State) where
  pub good_zero : st.passed ≡ 0 → good_state st ≡ both_of (within_of 1 st.kind 4) (zero_plan? st.plan)
  unfolding good_state
  good_zero h = simp (eq-eqb _ _ h)

  pub good_some : (st.passed ≡ 0 → ⊥)
      → good_state st ≡ both_of (within_of 1 st.kind 4) (both_of (plan_good st.kind st.plan) (leb st.passed (total_of st.kind st.plan)))
  unfolding good_state
  good_some h = simp (ne_eqb _ _ h)

  pub good_known : good_state st ≡ true → within_of 1 st.kind 4 ≡ true
  unfolding good_state
  good_known g = both_l (within_of 1 st.kind 4) _ g

  pub good_later : good_state st ≡ true → (st.passed ≡ 0 → ⊥) → (plan_good st.kind st.plan ≡ true) × (st.passed ≤ total_of st.kind st.plan)
  good_later g h =
      let q = both_r (within_of 1 st.kind 4) (both_of (plan_good st.kind st.plan) (leb st.passed (total_of st.kind st.plan)))
      (sym (good_some h) ∙ g) in (
        both_l (plan_good st.kind st.plan) (leb st.passed (total_of st.kind st.plan)) q,
        leb-true _ _ (both_r (plan_good st.kind st.plan) (leb st.passed (total_of st.kind st.plan)) q),
      )

  pub ready : good_state st ≡ true → Ready st
  ready g =
      ⊎_elim
      (λ z.
      let h = eqb-true st.passed 0 z in
      record {
        small = small_zero st.kind st.plan (both_r (within_of 1 st.kind 4) (zero_plan? st.plan) (sym (good_zero h)
            ∙ g));
        within = omega arith;
      })
      (λ z.
      let q = good_later g (eqb-false st.passed 0 z) in
      record { small = small_good st.kind st.plan q.0; within = q.1 })
      (cases (eqb st.passed 0))

pub fresh_good : (kind : ℕ) → 1 ≤ kind → kind ≤ 4 → good_state (fresh kind) ≡ true
unfolding zero_plan? all_zero
fresh_good kind a b = good_zero (fresh kind) refl ∙ both_make _ _ (true_within 1 kind 4 a b) refl
