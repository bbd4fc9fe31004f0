-- From any good state some bytes lead the closed walk to its end: the records still due, one after the other, by induction on how many they are.
use Prim.Native.Nat.{ℕ, zero, suc, ◌+◌, ◌-◌, ◌≤◌, ◌<◌}
use mathlib.Core.Path.{◌≡◌, refl, sym, ap, ◌∙◌, subst}
use mathlib.Core.List.{List, [], ◌++◌}
use mathlib.Core.Bool.{Bool, true, false}
use native.Mathlib.Nat.{suc-add}
use native.Mathlib.Omega.{arith}
use lib.Dec.{eqb}
use lib.ListN.{length, take, drop}
use lib.Seq.{take-length, drop_at}
use borrow.Author.Tests.{le-leb}
use Rattle.std.specs.Prelude.{Ok}
use Rattle.words.specs.Tests.{pick}
use Rattle.words.proofs.Laws.{both_make, within_true, true_within}
use Rattle.plan.specs.Tables.{rows}
use Rattle.plan.specs.Plan.{volume, leader, image, first_length, total_of, codes_of, spot_of, plan_good, zero_plan, records_most, first_codes, due_of}
use Rattle.plan.specs.declared.Plan.{Plan}
use Rattle.plan.proofs.Bounds.{small_good, total_small}
use Rattle.bodies.specs.Bodies.{body_of}
use Rattle.leader.specs.Leader.{counts_of, lengths_of}
use Rattle.bodies.specs.Named.{plan_of}
use Rattle.bodies.proofs.Named.{first_good}
use Rattle.walk.specs.State.{fresh, good_state, next_due}
use Rattle.headers.specs.Header.{header_of}
use Rattle.turns.specs.Turn.{on_fine, ended_of}
use Rattle.walk.specs.Walk.{turn_of, next_of, walk_of}
use Rattle.walk.specs.declared.State.{State}
use Rattle.turns.specs.declared.Stop.TheVariants.{Complete}
use Rattle.walk.specs.declared.Walked.{Walked}
use Rattle.walk.proofs.GoodLaws.{good_known, good_some, good_later, fresh_good}
use Rattle.walk.proofs.LoopLaws.{walk_halt, walk_pass}
use Rattle.turns.proofs.TurnLaws.{judge_ended, judge_body, one_total}
use Rattle.walk.proofs.TurnLaws.{next_as_later}
use Rattle.verdicts.specs.Tests.{Verdict}
use Rattle.promises.specs.Bytes.{Bytes}
use Rattle.promises.proofs.Turns.{turn_pass_stays, next_stays}
use Rattle.promises.proofs.Made.{bytes_join}
use Rattle.promises.proofs.WitnessFirst.{first_some}
use Rattle.promises.proofs.WitnessLater.{later_some, later_twelve}

-- some bytes, with which every closed walk of budget m or more is complete
pub record Done (m : ℕ) (st : State) : Type 0 where
  pub rest : List ℕ
  pub bytes : Bytes rest
  pub complete : (n : ℕ) → (walk_of (m + n) st rest true).stop ≡ Complete

-- a record that passes, before bytes that complete the state behind it
module _ (st : State) (g : good_state st ≡ true) (r : List ℕ) (b : Bytes r) (e : length r ≡ (next_due st).length) where
  one_more : turn_of st r false ≡ Ok tt → (m : ℕ) → Done m (next_of st r) → Done (suc m) st
  one_more t m d =
      record {
        rest = r ++ d.rest;
        bytes = bytes_join r d.rest b d.bytes;
        complete =
            λ n.
            rw suc-add
            (ap (λ (w : Walked). w.stop) (walk_pass st (r ++ d.rest) true (m + n) g (turn_pass_stays st r d.rest true t))
            ∙ ap (λ (s : State). (walk_of (m + n) s (drop (next_due st).length (r ++ d.rest)) true).stop) (next_stays st r d.rest t)
            ∙ ap (λ (y : List ℕ). (walk_of (m + n) (next_of st r) y true).stop) (drop_at r d.rest (next_due st).length e)
            ∙ d.complete n);
      }

  pub passes : st.passed < total_of st.kind st.plan → 12 ≤ length r
      → header_of (st.passed + 1) (next_due st).codes (next_due st).length r ≡ Ok tt
      → body_of st.kind (next_due st).run st.plan st.passed r ≡ Ok tt → turn_of st r false ≡ Ok tt
  passes going twelve h f =
      judge_body st.kind st.plan st.passed (next_due st) r false going twelve h (omega arith)
      ∙ ap (λ (y : List ℕ). on_fine (body_of st.kind (next_due st).run st.plan st.passed y) (st.passed + 1) (next_due st).start (Ok tt))
      (ap (λ (n : ℕ). take n r) (sym e) ∙ take-length r)
      ∙ ap (λ (v : Verdict). on_fine v (st.passed + 1) (next_due st).start (Ok tt)) f

-- ---- behind the first record

abbrev pub at : ℕ → Plan → ℕ → State
at kind p k = record { kind = kind; passed = k; plan = p }

module _ (kind : ℕ) (p : Plan) (a : 1 ≤ kind) (b : kind ≤ 4) (g : plan_good kind p ≡ true) (c : length p.counts ≡ rows) (l : length p.lengths ≡ rows) where
  pub at_good : (k : ℕ) → 1 ≤ k → k ≤ total_of kind p → good_state (at kind p k) ≡ true
  at_good k h m = good_some (at kind p k) (λ z. omega arith) ∙ both_make _ _ (true_within 1 kind 4 a b) (both_make _ _ g (le-leb _ _ m))

  at_end : (k : ℕ) → 1 ≤ k → k ≡ total_of kind p → Done 1 (at kind p k)
  unfolding ended_of
  at_end k h e =
      record {
        rest = [];
        bytes = tt;
        complete =
            λ n.
            rw suc-add
            (ap (λ (w : Walked). w.stop)
            (walk_halt (at kind p k) [] true (0 + n) Complete (at_good k h (omega arith)) (judge_ended kind p k (due_of kind p k) [] true (omega arith))));
      }

  at_later : (d k : ℕ) → 1 ≤ k → k + d ≡ total_of kind p → Done (suc d) (at kind p k)
  at_later zero k h e = at_end k h (omega arith)
  at_later (suc d) k h e = go (later_some kind p k a b g c l h (omega arith)) (at_later d (k + 1) (omega arith) (omega arith))
    where
      go : (r : List ℕ) × Bytes r × (length r ≡ (due_of kind p k).length)
          × (header_of (due_of kind p k).ordinal (due_of kind p k).codes (due_of kind p k).length r ≡ Ok tt)
          × (body_of kind (due_of kind p k).run p k r ≡ Ok tt) → Done (suc d) (at kind p (k + 1)) → Done (suc (suc d)) (at kind p k)
      go (r, y, z, i, f) x =
          let st = at kind p k in
          let gs = at_good k h (omega arith) in
          let w : 12 ≤ length r = omega (arith, later_twelve kind p k a b g c l h (omega arith)) in
          one_more st gs r y z (passes st gs r y z (omega arith) w i f) (suc d)
          (subst (λ (t : State). Done (suc d) t) (next_as_later st r p (λ q. omega arith) refl) x)

-- ---- a fresh state: a first record, and what the plan that it names promises

module _ (kind : ℕ) (r : List ℕ) where
  pub named_counts : length (plan_of kind r).counts ≡ rows
  unfolding plan_of counts_of
  named_counts = go (eqb kind volume) (eqb kind leader) (eqb kind image) (plan_of 1 r) (plan_of 2 r) (plan_of 3 r) refl refl refl
    where
      go : (x y z : Bool) (u v w : Plan) → length u.counts ≡ rows → length v.counts ≡ rows → length w.counts ≡ rows
          → length (pick x u (pick y v (pick z w zero_plan))).counts ≡ rows
      go true y z u v w i j k = i
      go false true z u v w i j k = j
      go false false true u v w i j k = k
      go false false false u v w i j k = refl

  pub named_lengths : length (plan_of kind r).lengths ≡ rows
  unfolding plan_of lengths_of
  named_lengths = go (eqb kind volume) (eqb kind leader) (eqb kind image) (plan_of 1 r) (plan_of 2 r) (plan_of 3 r) refl refl refl
    where
      go : (x y z : Bool) (u v w : Plan) → length u.lengths ≡ rows → length v.lengths ≡ rows → length w.lengths ≡ rows
          → length (pick x u (pick y v (pick z w zero_plan))).lengths ≡ rows
      go true y z u v w i j k = i
      go false true z u v w i j k = j
      go false false true u v w i j k = k
      go false false false u v w i j k = refl

  first_twelve : length r ≡ first_length kind → 12 ≤ length r
  unfolding first_length
  first_twelve e = go (eqb kind volume) e
    where
      go : (x : Bool) → length r ≡ pick x 360 720 → 12 ≤ length r
      go true e = omega arith
      go false e = omega arith

-- some bytes and the budget that they need, no more than the most that a plan can promise, and one
abbrev pub Enough : State → Type 0
Enough st = (m : ℕ) × (m ≤ records_most + 2) × Done m st

module _ (kind : ℕ) (p : Plan) (a : 1 ≤ kind) (b : kind ≤ 4) where
  from_first : good_state (at kind p 0) ≡ true → Enough (at kind p 0)
  unfolding spot_of codes_of next_of
  from_first g = go (first_some kind a b)
    where
      go : (r : List ℕ) × Bytes r × (length r ≡ first_length kind) × ((q : Plan) → header_of 1 (first_codes kind) (first_length kind) r ≡ Ok tt)
          × ((q : Plan) → body_of kind 0 q 0 r ≡ Ok tt) → Enough (at kind p 0)
      go (r, y, z, i, f) =
          let st = at kind p 0 in
          let q : Plan = plan_of kind r in
          let gq : plan_good kind q ≡ true = first_good kind p r a b (f p) in
          let d : ℕ = total_of kind q - 1 in
          let small = total_small kind q (named_counts kind r) (small_good kind q gq) in
          let t : turn_of st r false ≡ Ok tt = passes st g r y z (omega (arith, one_total kind p)) (first_twelve kind r z) (i p) (f p) in
          let e : plan_of kind r ≡ plan_of kind (take (first_length kind) r) = ap (plan_of kind) (sym (ap (λ (n : ℕ). take n r) (sym z) ∙ take-length r)) in (
            suc (suc d),
            omega arith,
            one_more st g r y z t (suc d)
                (subst (λ (s : State). Done (suc d) s) (ap (λ (x : Plan). at kind x 1) e)
                (at_later kind q a b gq (named_counts kind r) (named_lengths kind r) d 1 (omega arith) (omega (arith, one_total kind q)))),
          )

  from_later : (k : ℕ) → length p.counts ≡ rows → length p.lengths ≡ rows → good_state (at kind p (suc k)) ≡ true → Enough (at kind p (suc k))
  from_later k c l g =
      let h = good_later (at kind p (suc k)) g (λ z. omega arith) in
      let small = total_small kind p c (small_good kind p h.0) in
      (suc (total_of kind p - suc k), omega arith, at_later kind p a b h.0 c l (total_of kind p - suc k) (suc k) (omega arith) (omega (arith, h.1)))

pub enough_some : (st : State) → good_state st ≡ true → length st.plan.counts ≡ rows → length st.plan.lengths ≡ rows → Enough st
enough_some st g c l = go st.passed g
  where
    known : (1 ≤ st.kind) × (st.kind ≤ 4)
    known = within_true 1 st.kind 4 (good_known st g)

    go : (k : ℕ) → good_state (at st.kind st.plan k) ≡ true → Enough (at st.kind st.plan k)
    go zero h = from_first st.kind st.plan known.0 known.1 h
    go (suc k) h = from_later st.kind st.plan known.0 known.1 k c l h

-- any good state: some bytes complete it, with any budget above the most that a plan can promise
pub completes : (st : State) → good_state st ≡ true → length st.plan.counts ≡ rows → length st.plan.lengths ≡ rows
    → (ys : List ℕ) × Bytes ys × ((n : ℕ) → records_most + 1 < n → (walk_of n st ys true).stop ≡ Complete)
completes st g c l = go (enough_some st g c l)
  where
    go : Enough st → (ys : List ℕ) × Bytes ys × ((n : ℕ) → records_most + 1 < n → (walk_of n st ys true).stop ≡ Complete)
    go (m, h, d) = (
      d.rest,
      d.bytes,
      λ n k. let e : n ≡ m + (n - m) = omega arith in ap (λ (i : ℕ). (walk_of i st d.rest true).stop) e ∙ d.complete (n - m),
    )

-- so some file of each kind is complete
pub some_file : (kind : ℕ) → 1 ≤ kind → kind ≤ 4 → (ys : List ℕ) × Bytes ys ×
    ((n : ℕ) → records_most + 1 < n → (walk_of n (fresh kind) ys true).stop ≡ Complete)
some_file kind a b = completes (fresh kind) (fresh_good kind a b) refl refl
