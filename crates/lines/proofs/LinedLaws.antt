-- The plan that an image's first record leaves can be placed: a good state's plan is all zeros or one that the rules allow, and either has room for its lines.
use Prim.Native.Nat.{ℕ, ◌+◌, ◌*◌, ◌≤◌}
use mathlib.Core.Path.{◌≡◌, sym, ◌∙◌, subst}
use mathlib.Core.List.{List}
use mathlib.Core.Bool.{true, false}
use mathlib.Core.Logic.{⊎_elim}
use native.Mathlib.Omega.{arith}
use lib.Dec.{eqb}
use borrow.Author.Tests.{eqb-true, eqb-false}
use Rattle.words.specs.Tests.{within_of}
use Rattle.words.proofs.Laws.{both_l, both_r, cases}
use Rattle.plan.specs.Plan.{image, group_of, slots_zero?, image_zero?, zero_plan?, plan_good, run_counts, run_lengths, Small}
use Rattle.plan.specs.declared.Plan.{Plan}
use Rattle.plan.proofs.GoodLaws.{image_agrees_lem, image_room}
use Rattle.walk.specs.State.{fresh, good_state}
use Rattle.walk.specs.declared.State.{State}
use Rattle.walk.proofs.GoodLaws.{good_zero, good_later, ready, fresh_good}
use Rattle.walk.proofs.KeptLaws.{good_kept, kind_kept}
use Rattle.lines.specs.View.{first_of, Lined}

module _ (p : Plan) where
  no_lines : zero_plan? p ≡ true → p.n ≡ 0
  unfolding zero_plan?
  no_lines z = eqb-true p.n 0 (both_l (eqb p.n 0) _ (both_r (slots_zero? p) (image_zero? p) (both_r (eqb p.pointers 0) _ z)))

  small_lines : Small (run_counts image p) (run_lengths image p) → (p.n ≤ 999999) × (p.l ≤ 99999999)
  unfolding run_counts run_lengths
  small_lines s = (s.few 0 (omega arith), s.short 0 (omega arith))

  made : Small (run_counts image p) (run_lengths image p) → (1 ≤ p.n → (p.d ≡ group_of p * p.w) × (192 + p.d + p.s ≤ p.l)) → Lined p
  made s a = record { small = s; lines = (small_lines s).0; long = (small_lines s).1; room = λ h. (a h).1; paired = λ h. (a h).0 }

pub lined_good : (st : State) → good_state st ≡ true → st.kind ≡ image → Lined st.plan
lined_good st g k =
    made st.plan (subst (λ (i : ℕ). Small (run_counts i st.plan) (run_lengths i st.plan)) k (ready st g).small)
    (λ h. ⊎_elim
    (λ z. absurd (let e = no_lines st.plan (both_r (within_of 1 st.kind 4) (zero_plan? st.plan) (sym (good_zero st (eqb-true st.passed 0 z))
    ∙ g)) in omega arith))
    (λ z. let pg = subst (λ (i : ℕ). plan_good i st.plan ≡ true) k (good_later st g (eqb-false st.passed 0 z)).0 in
    ((image_agrees_lem st.plan pg).0, image_room st.plan pg))
    (cases (eqb st.passed 0)))

-- the plan behind the first record
pub lined : (bs : List ℕ) → Lined (first_of bs).state.plan
lined bs = lined_good (first_of bs).state (good_kept 1 (fresh image) bs false (fresh_good image (omega arith) (omega arith)))
    (kind_kept 1 (fresh image) bs false)
