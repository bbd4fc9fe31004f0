-- The pairs from i on have the first fault of all, since each pair read was fine; each row of the plan whose pair was read has that pair's numbers.
use Prim.Native.Nat.{ℕ, ◌+◌}
use mathlib.Core.Path.{◌≡◌, sym, ap, ap₂, ◌∙◌, subst}
use mathlib.Core.List.{List}
use native.Mathlib.Omega.{arith}
use borrow.Author.Rules.{rules}
use lib.ListN.{length, length-set}
use Rattle.std.specs.Prelude.{Some, None, Ok, Err}
use Rattle.decimal.specs.declared.Form.TheVariants.{I4}
use Rattle.verdicts.specs.Tests.{first_fault}
use Rattle.verdicts.proofs.TestLaws.{row_found, row_passed, rows_end, named_fault, named_fine, fault_found, fine_found}
use Rattle.leader.specs.Leader.{pair, pairs, pair_row, pair_tests, count_at, length_at, counts_of, lengths_of, pair_of}
use Rattle.leader.specs.declared.Held.{Held}
use Rattle.leader.specs.declared.Pair.{Pair}
use Rattle.leader.proofs.FillLaws as laws
use Rattle.leader.proofs.read_pairs.Goals as goal
use Rattle.leader.proofs.read_pairs.Goals.{in-Some, in_default}

-- what was read of pair i
module _ (r : List ℕ) (i : ℕ) where
  bad_pair : {y : _} → pair_of r (pair_row i) ≡ Err y → first_fault (pair_tests r (pair_row i)) ≡ Err y
  unfolding pair_of
  bad_pair q = fault_found _ (first_fault (pair_tests r (pair_row i))) q

  good_pair : {y : Held} → pair_of r (pair_row i) ≡ Ok y → (first_fault (pair_tests r (pair_row i)) ≡ Ok tt)
      × (y ≡ record { count = count_at r (pair_row i); length = length_at r (pair_row i) })
  unfolding pair_of
  good_pair q = fine_found _ (first_fault (pair_tests r (pair_row i))) q

pub returns-in_err-y : goal.returns-in_err-y
unfolding pair_row
returns-in_err-y c =
    let r = c.args.r.now in
    let l = c.loop-i in
    let e : c.from_residual.result ≡ Err c.in_err-y.field-0.0 = search rules in
    let q = bad_pair r l.i (sym (c.read_pair.ensures ∙ ap (pair_of r) c.pair_row-x.ensures.value) ∙ c.in_err-y.was) in
    e ∙ named_fault _ (l.invariant.fine ∙ row_found (pair_tests r) pairs (pair 0 I4 (Some 0)) l.i 26 c.loop-i-test.true (omega arith) q)

pub loop-i-preserved : goal.loop-i-preserved
unfolding pair_row
loop-i-preserved c =
    let r = c.args.r.now in
    let l = c.loop-i in
    let x = c.pair_row-x.ensures.value in
    let y = c.in_ok-y.y in
    let q = good_pair r l.i (sym (c.read_pair.ensures ∙ ap (pair_of r) x) ∙ c.in_ok-y.was) in
    let f = l.invariant.fine ∙ row_passed (pair_tests r) pairs (pair 0 I4 (Some 0)) l.i 26 c.loop-i-test.true (omega arith) q.0 in
    elim c.match-x.branch [
      | in-Some w ↦
          let row : (pair_row l.i).row ≡ Some w.in-Some.row = sym (ap (λ (x : Pair). x.row) x) ∙ w.in-Some.is in
          record {
            counted = ap length w.counts-is ∙ length-set l.counts w.in-Some.row y.count ∙ l.invariant.counted;
            measured = ap length w.lengths-is ∙ length-set l.lengths w.in-Some.row y.length ∙ l.invariant.measured;
            fine = f;
            counts = subst (λ (a : List ℕ). laws.Filled (λ k. count_at r (pair_row k)) a (l.i + 1)) (sym w.counts-is)
                (laws.put_more (λ k. count_at r (pair_row k)) l.counts l.i c.loop-i-test.true l.invariant.counts
                y.count w.in-Some.row l.invariant.counted row (ap (λ (h : Held). h.count) q.1));
            lengths = subst (λ (a : List ℕ). laws.Filled (λ k. length_at r (pair_row k)) a (l.i + 1)) (sym w.lengths-is)
                (laws.put_more (λ k. length_at r (pair_row k)) l.lengths l.i c.loop-i-test.true l.invariant.lengths
                y.length w.in-Some.row l.invariant.measured row (ap (λ (h : Held). h.length) q.1));
          }
      | in_default w ↦
          let row : (pair_row l.i).row ≡ None = sym (ap (λ (x : Pair). x.row) x) ∙ w.in_default.is in
          record {
            counted = ap length w.counts-is ∙ l.invariant.counted;
            measured = ap length w.lengths-is ∙ l.invariant.measured;
            fine = f;
            counts = subst (λ (a : List ℕ). laws.Filled (λ k. count_at r (pair_row k)) a (l.i + 1)) (sym w.counts-is)
                (laws.none_more (λ k. count_at r (pair_row k)) l.counts l.i c.loop-i-test.true l.invariant.counts row);
            lengths = subst (λ (a : List ℕ). laws.Filled (λ k. length_at r (pair_row k)) a (l.i + 1)) (sym w.lengths-is)
                (laws.none_more (λ k. length_at r (pair_row k)) l.lengths l.i c.loop-i-test.true l.invariant.lengths row);
          }
    ]

pub returns : goal.returns
unfolding counts_of lengths_of
returns c =
    let r = c.args.r.now in
    let l = c.loop-i in
    let i : l.i ≡ 26 = omega (arith, l.auto.i-end, c.loop-i-test.false) in
    let a = laws.filled_is (λ (j : ℕ). count_at r (pair_row j)) l.counts l.invariant.counted
    (subst (laws.Filled (λ j. count_at r (pair_row j)) l.counts) i l.invariant.counts) in
    let b = laws.filled_is (λ (j : ℕ). length_at r (pair_row j)) l.lengths l.invariant.measured
    (subst (laws.Filled (λ j. length_at r (pair_row j)) l.lengths) i l.invariant.lengths) in
    ap₂ (λ (c d : List ℕ). Ok (record { counts = c; lengths = d })) a b
    ∙ named_fine _ (l.invariant.fine ∙ rows_end (pair_tests r) pairs (pair 0 I4 (Some 0)) l.i 26 (omega arith) c.loop-i-test.false)
