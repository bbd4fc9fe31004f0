-- The set check behind the directory's walk, whose state is good and so has at most six pointers.
use Prim.Native.Nat.{ℕ, ◌≤◌}
use mathlib.Core.Path.{◌≡◌, refl, sym, ap, ◌∙◌, subst}
use mathlib.Core.List.{List}
use mathlib.Core.Bool.{true}
use mathlib.Core.Logic.{⊎_elim}
use native.Mathlib.Omega.{arith}
use lib.Dec.{eqb}
use lib.ListN.{length}
use borrow.Author.Tests.{eq-eqb, ne_eqb, eqb-true, eqb-false}
use Rattle.std.specs.Prelude.{Err}
use Rattle.words.specs.Tests.{within_of}
use Rattle.words.specs.Words.{place_of}
use Rattle.words.specs.declared.Refusal.{Refusal}
use Rattle.words.proofs.Laws.{both_l, both_r, cases, within_true}
use Rattle.plan.specs.Plan.{volume, zero_plan?, volume_good, plan_good}
use Rattle.plan.specs.declared.Plan.{Plan}
use Rattle.walk.specs.State.{fresh, good_state}
use Rattle.walk.specs.declared.State.{State}
use Rattle.turns.specs.declared.Stop.{Stop}
use Rattle.turns.specs.declared.Stop.TheVariants.{Wait, Pause, Complete, Refused}
use Rattle.walk.specs.declared.Walked.{Walked}
use Rattle.walk.proofs.GoodLaws.{good_zero, good_later, fresh_good}
use Rattle.walk.proofs.KeptLaws.{good_kept, kind_kept}
use Rattle.sets.specs.Set.{Agreement, differs, compare_from, compare_of, behind_walk, directory, set_of}

-- ---- behind the directory's walk

-- a directory has at most six pointers
few : (p : Plan) → plan_good volume p ≡ true → p.pointers ≤ 6
unfolding plan_good volume_good
few p g = (within_true 3 p.pointers 6 (both_l (within_of 3 p.pointers 6) _ g)).1

none : (p : Plan) → zero_plan? p ≡ true → p.pointers ≡ 0
unfolding zero_plan?
none p z = eqb-true p.pointers 0 (both_l (eqb p.pointers 0) _ z)

few_good : (st : State) → good_state st ≡ true → st.kind ≡ volume → st.plan.pointers ≤ 6
few_good st g k =
    ⊎_elim
    (λ z. let e = none st.plan (both_r (within_of 1 st.kind 4) (zero_plan? st.plan) (sym (good_zero st (eqb-true st.passed 0 z)) ∙ g)) in omega arith)
    (λ z. few st.plan (subst (λ (i : ℕ). plan_good i st.plan ≡ true) k (good_later st g (eqb-false st.passed 0 z)).0))
    (cases (eqb st.passed 0))

pub few_pointers : (bs : List ℕ) → (directory bs).state.plan.pointers ≤ 6
few_pointers bs =
    few_good (directory bs).state (good_kept 9 (fresh volume) bs true (fresh_good volume (omega arith) (omega arith))) (kind_kept 9 (fresh volume) bs true)

not_refused : (x : Stop) (a : Agreement) → ((r : Refusal) → x ≡ Refused r → ⊥) → behind_walk x a ≡ a
not_refused (Wait n) a o = refl
not_refused Pause a o = refl
not_refused Complete a o = refl
not_refused (Refused r) a o = absurd (o r refl)

-- the walk as the code has it, and the answer by its stop
module _ (bs cs : List ℕ) (w : Walked) (walk_is : w ≡ directory bs) where
  set_is : set_of bs cs ≡ behind_walk w.stop (compare_of w.state.plan.pointers bs cs)
  unfolding set_of
  set_is = ap (λ (x : Walked). behind_walk x.stop (compare_of x.state.plan.pointers bs cs)) (sym walk_is)

  pub set_refused : (r : Refusal) → w.stop ≡ Refused r → Err r ≡ set_of bs cs
  set_refused r e = sym (set_is ∙ ap (λ (x : Stop). behind_walk x (compare_of w.state.plan.pointers bs cs)) e)

  module _ (o : (r : Refusal) → w.stop ≡ Refused r → ⊥) where
    pub set_length : (length cs ≡ w.state.plan.pointers → ⊥) → differs (place_of 161) ≡ set_of bs cs
    unfolding compare_of
    set_length n = sym (set_is ∙ not_refused w.stop _ o ∙ simp (ne_eqb _ _ n))

    pub set_compare : length cs ≡ w.state.plan.pointers → compare_from 1 bs cs ≡ set_of bs cs
    unfolding compare_of
    set_compare e = sym (set_is ∙ not_refused w.stop _ o ∙ simp (eq-eqb _ _ e))
