-- `state_rule`: the state rule's test holds exactly of the states that have passed nothing, and of those behind a first record that names their plan; by the
-- cases of the test.
use Prim.Native.Nat.{ℕ, zero, suc, ◌≤◌}
use mathlib.Core.Path.{◌≡◌, refl, sym, ◌∙◌, subst}
use mathlib.Core.Bool.{true}
use mathlib.Core.Logic.{◌↔◌, inl, inr}
use native.Mathlib.Omega.{arith}
use lib.ListN.{length}
use Rattle.words.specs.Tests.{within_of}
use Rattle.words.proofs.Laws.{both_r, both_make, within_true, true_within}
use Rattle.plan.specs.Tables.{rows}
use Rattle.plan.specs.Plan.{zero_plan?}
use Rattle.plan.specs.declared.Plan.{Plan}
use Rattle.walk.specs.State.{good_state}
use Rattle.walk.specs.declared.State.{State}
use Rattle.walk.proofs.GoodLaws.{good_zero, good_known, good_later}
use Rattle.promises.specs.Rules.{Kind, volume, leader, image, trailer, kind_number}
use Rattle.promises.proofs.Accepts.{kind_low}
use Rattle.promises.proofs.Completed.{at, at_good}
use Rattle.promises.proofs.LaterIs.{promised_length}
use Rattle.first_records.specs.StateRule.{Lawful, AllowedState}
use Rattle.first_records.proofs.AllowedIs.{zeros_are}
use Rattle.first_records.proofs.AllowedNamed.{allowed_named}

-- a number from 1 to 4 is a kind's
kind_of_lem : (k : ℕ) → 1 ≤ k → k ≤ 4 → (kind : Kind) × (k ≡ kind_number kind)
kind_of_lem zero a b = absurd (omega arith)
kind_of_lem (suc zero) a b = (volume, refl)
kind_of_lem (suc (suc zero)) a b = (leader, refl)
kind_of_lem (suc (suc (suc zero))) a b = (image, refl)
kind_of_lem (suc (suc (suc (suc zero)))) a b = (trailer, refl)
kind_of_lem (suc (suc (suc (suc (suc k))))) a b = absurd (omega arith)

-- a state of a kind
module _ (kind : Kind) (p : Plan) (c : length p.counts ≡ rows) (l : length p.lengths ≡ rows) where
  known : within_of 1 (kind_number kind) 4 ≡ true
  known = true_within 1 (kind_number kind) 4 (kind_low kind).0 (kind_low kind).1

  lawful_to : (k : ℕ) → good_state (at (kind_number kind) p k) ≡ true → Lawful kind (at (kind_number kind) p k)
  lawful_to zero g = inl (
    refl,
    (zeros_are p).0
        (both_r (within_of 1 (kind_number kind) 4) (zero_plan? p) (sym (good_zero (at (kind_number kind) p 0) refl) ∙ g)),
  )
  lawful_to (suc k) g =
      let h = good_later (at (kind_number kind) p (suc k)) g (λ z. omega arith) in
      inr (omega arith, omega (arith, h.1, promised_length kind p c l), (allowed_named kind p c l).0 h.0)

  lawful_from : (k : ℕ) → Lawful kind (at (kind_number kind) p k) → good_state (at (kind_number kind) p k) ≡ true
  lawful_from k (inl (e, z)) = good_zero (at (kind_number kind) p k) e ∙ both_make _ _ known ((zeros_are p).1 z)
  lawful_from k (inr (a, b, n)) =
      at_good (kind_number kind) p (kind_low kind).0 (kind_low kind).1 ((allowed_named kind p c l).1 n) c l k a (omega (arith, promised_length kind p c l))

pub state_rule : (st : State) → length st.plan.counts ≡ rows → length st.plan.lengths ≡ rows → (good_state st ≡ true) ↔ AllowedState st
state_rule st c l = (
  λ g. let b = within_true 1 st.kind 4 (good_known st g) in to (kind_of_lem st.kind b.0 b.1) g,
  λ (kind, e, a).
      subst (λ (k : ℕ). good_state (at k st.plan st.passed) ≡ true) (sym e)
      (lawful_from kind st.plan c l st.passed a),
)
  where
    to : (kind : Kind) × (st.kind ≡ kind_number kind) → good_state st ≡ true → AllowedState st
    to (kind, e) g = (
      kind,
      e,
      lawful_to kind st.plan c l st.passed
          (subst (λ (k : ℕ). good_state (at k st.plan st.passed) ≡ true) e g),
    )
