-- The pairs from i on have the first fault of all, since each pair read was fine; each row of the plan whose pair was read has that pair's numbers.
use mathlib.Core.Path.{◌≡◌}
use lib.ListN.{length}
use lib.Seq.{slice}
use Rattle.plan.specs.Tables.{rows}
use Rattle.verdicts.specs.Tests.{first_fault, each}
use Rattle.leader.specs.Leader.{pairs, pair_row, pair_tests, count_at, length_at}
use Rattle.leader.proofs.FillLaws.{Filled}
use Rattle.leader.proofs.read_pairs.Given as goal

abbrev pub invariant-loop-i : goal.invariant-loop-i
invariant-loop-i l = record {
  counted : length l.counts ≡ rows;
  measured : length l.lengths ≡ rows;
  fine : first_fault (each (pair_tests l.r) pairs) ≡ first_fault (each (pair_tests l.r) (slice l.i 26 pairs));
  counts : Filled (λ k. count_at l.r (pair_row k)) l.counts l.i;
  lengths : Filled (λ k. length_at l.r (pair_row k)) l.lengths l.i;
}
