-- The state behind a record that passes: its parts, and that it is good again, by what the turn found.
use Prim.Native.Nat.{ℕ, zero, suc, ◌+◌, ◌-◌, ◌*◌, ◌≤◌}
use mathlib.Core.Path.{◌≡◌, refl, sym, ap, ◌∙◌, subst}
use mathlib.Core.List.{List, [], ◌∷◌}
use mathlib.Core.Bool.{Bool, true, false}
use mathlib.Core.Logic.{⊎_elim}
use native.Mathlib.Omega.{arith}
use lib.Dec.{eqb, ltb}
use lib.ListN.{take}
use Rattle.std.specs.Prelude.{Result, Ok, Err}
use borrow.Author.Tests.{eq-eqb, ne_eqb, eqb-true, eqb-false, le-leb}
use Rattle.words.specs.Tests.{pick, within_of}
use Rattle.words.proofs.Laws.{both_make, cases, within_true}
use Rattle.plan.specs.Plan.{total_of, plan_good, run_counts, run_lengths, first_length, spot_from, spot_of}
use Rattle.plan.specs.declared.Plan.{Plan}
use Rattle.plan.specs.declared.Spot.{Spot}
use Rattle.plan.specs.declared.Due.{Due}
use Rattle.plan.proofs.CodeLaws as code_laws
use Rattle.bodies.specs.Bodies.{body_of}
use Rattle.bodies.specs.Named.{plan_of}
use Rattle.bodies.proofs.Named.{first_good}
use Rattle.turns.specs.Turn.{Turn, plan_behind, judged_of}
use Rattle.turns.specs.declared.Stop.{Stop}
use Rattle.turns.proofs.TurnLaws.{pass_parts, pass_going, one_total}
use Rattle.walk.specs.State.{good_state, next_due}
use Rattle.walk.specs.Walk.{turn_of, next_with, next_of}
use Rattle.walk.specs.declared.State.{State}
use Rattle.walk.proofs.GoodLaws.{good_some, good_known, good_later}

-- one record more, and the plan behind the first record, and behind any other
module _ (st : State) (b : List ℕ) where
  pub next_passed : (next_of st b).passed ≡ st.passed + 1
  unfolding next_of
  next_passed = refl

  next_first : st.passed ≡ 0 → (next_of st b).plan ≡ plan_of st.kind (take (next_due st).length b)
  unfolding next_of
  next_first e = simp (eq-eqb st.passed 0 e)

  next_later : (st.passed ≡ 0 → ⊥) → (next_of st b).plan ≡ st.plan
  unfolding next_of
  next_later n = simp (ne_eqb st.passed 0 n)

  pub next_as_later : (q : Plan) → (st.passed ≡ 0 → ⊥) → q ≡ st.plan → record { kind = st.kind; passed = st.passed + 1; plan = q } ≡ next_of st b
  unfolding next_of
  next_as_later q n h = ap (λ (x : Plan). record { kind = st.kind; passed = st.passed + 1; plan = x }) (h ∙ sym (next_later n))

  next_good : within_of 1 st.kind 4 ≡ true → plan_good st.kind (next_of st b).plan ≡ true → st.passed + 1 ≤ total_of st.kind (next_of st b).plan
      → good_state (next_of st b) ≡ true
  unfolding next_of
  next_good w g t = good_some (next_of st b) (λ e. omega arith) ∙ both_make _ _ w (both_make _ _ g (le-leb _ _ t))

  -- a passed record leaves a good state
  pub good_next : (c : Bool) → good_state st ≡ true → turn_of st b c ≡ Ok tt → good_state (next_of st b) ≡ true
  good_next c g t =
      let w = good_known st g in
      let k = within_true 1 st.kind 4 w in
      let q = pass_parts st.kind st.plan st.passed (next_due st) b c t in
      let o = pass_going st.kind st.plan st.passed (next_due st) b c t in
      ⊎_elim
      (λ z.
      let e = eqb-true st.passed 0 z in
      let r0 : (next_due st).run ≡ 0 = ap (λ (x : Spot). x.run) (code_laws.spot_first st.kind st.plan st.passed e) in
      let f : body_of st.kind 0 st.plan 0 (take (next_due st).length b) ≡ Ok tt =
      ap (λ (i : ℕ). body_of st.kind i st.plan 0 (take (next_due st).length b)) (sym r0)
      ∙ ap (λ (i : ℕ). body_of st.kind (next_due st).run st.plan i (take (next_due st).length b)) (sym e)
      ∙ q.body in
      next_good w (ap (plan_good st.kind) (next_first e) ∙ first_good st.kind st.plan (take (next_due st).length b) k.0 k.1 f)
      (omega (arith, one_total st.kind (next_of st b).plan)))
      (λ z.
      let e = eqb-false st.passed 0 z in
      let l = next_later e in
      next_good w (ap (plan_good st.kind) l ∙ (good_later st g e).0) (subst (λ (x : Plan). st.passed + 1 ≤ total_of st.kind x) (sym l) (omega arith)))
      (cases (eqb st.passed 0))

-- ---- the code's judgement, which is the turn with the plan behind it

-- only the first record is of run 0
run_least : (i : ℕ) (cs ls : List ℕ) (k at : ℕ) → i ≤ (spot_from i cs ls k at).run
unfolding spot_from
run_least i [] ls k at = omega arith
run_least i (c ∷ cs) [] k at = omega arith
run_least i (c ∷ cs) (l ∷ ls) k at = go (ltb k c) (let h = run_least (i + 1) cs ls (k - c) (at + c * l) in omega arith)
  where
    go : (x : Bool) → i ≤ (spot_from (i + 1) cs ls (k - c) (at + c * l)).run
        → i ≤ (pick x (record { run = i; length = l; start = at + k * l }) (spot_from (i + 1) cs ls (k - c) (at + c * l))).run
    go true h = omega arith
    go false h = h

run_first : (kind : ℕ) (p : Plan) (k : ℕ) → eqb (spot_of kind p k).run 0 ≡ eqb k 0
unfolding spot_of
run_first kind p zero = refl
run_first kind p (suc k) =
    ne_eqb (spot_from 1 (run_counts kind p) (run_lengths kind p) k (first_length kind)).run 0
    (λ z. omega (arith, run_least 1 (run_counts kind p) (run_lengths kind p) k (first_length kind)))
    ∙ sym (ne_eqb (suc k) 0 (λ z. omega arith))

module _ (st : State) (b : List ℕ) (c : Bool) {d : Due} {r : Result Plan Stop} (e : d ≡ next_due st)
    (h : r ≡ judged_of st.kind st.plan st.passed d b c)
  where
    judged : r ≡ plan_behind (turn_of st b c) st.kind st.plan (next_due st).run (take (next_due st).length b)
    unfolding judged_of
    judged = h ∙ ap (λ (x : Due). judged_of st.kind st.plan st.passed x b c) e

    -- the walk stops where the turn does
    pub halts : {x : Stop} → r ≡ Err x → turn_of st b c ≡ Err x
    halts {x} q = go (turn_of st b c) refl (sym judged ∙ q)
      where
        go : (t : Turn) → turn_of st b c ≡ t → plan_behind t st.kind st.plan (next_due st).run (take (next_due st).length b) ≡ Err x
            → turn_of st b c ≡ Err x
        go (Ok u) t w = let z : ◌≡◌ {A = ℕ} 0 1 = cc in absurd (omega arith)
        go (Err y) t w = let z : y ≡ x = cc in t ∙ ap (λ (s : Stop). Err s) z

    -- and else it passes, with the plan that is behind the record
    module _ {q : Plan} (k : r ≡ Ok q) where
      behind_is : (t : Turn) → turn_of st b c ≡ t → plan_behind t st.kind st.plan (next_due st).run (take (next_due st).length b) ≡ Ok q
          → (turn_of st b c ≡ Ok tt) × (q ≡ pick (eqb (next_due st).run 0) (plan_of st.kind (take (next_due st).length b)) st.plan)
      behind_is (Ok u) t w = (t, cc)
      behind_is (Err y) t w = let z : ◌≡◌ {A = ℕ} 0 1 = cc in absurd (omega arith)

      pub passes : turn_of st b c ≡ Ok tt
      passes = (behind_is (turn_of st b c) refl (sym judged ∙ k)).0

      pub next_is : next_with st q ≡ next_of st b
      unfolding next_of
      next_is =
          ap (next_with st)
          ((behind_is (turn_of st b c) refl (sym judged ∙ k)).1
          ∙ ap (λ (x : Bool). pick x (plan_of st.kind (take (next_due st).length b)) st.plan) (run_first st.kind st.plan st.passed))
