-- The search from run i on for what is left of k is the search from the first run for k; the bounds on each run leave room for every sum.
use Prim.Native.Nat.{◌+◌, ◌*◌, ◌≤◌}
use mathlib.Core.Path.{◌≡◌}
use lib.ListN.{length, drop}
use Rattle.plan.specs.Tables.{rows}
use Rattle.plan.specs.Plan.{spot_from, Small}
use Rattle.plan.proofs.find.Given as goal

abbrev pub invariant-loop-i : goal.invariant-loop-i
invariant-loop-i l = (l.start ≤ 720 + l.i * 999998000001) × (length l.runs.counts ≡ rows) ×
    (length l.runs.lengths ≡ rows) × Small l.runs.counts l.runs.lengths ×
    (spot_from 1 l.runs.counts l.runs.lengths l.k l.at ≡ spot_from (l.i + 1) (drop l.i l.runs.counts) (drop l.i l.runs.lengths) l.left l.start)
