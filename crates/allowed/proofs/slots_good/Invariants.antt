-- The slots from i on are good exactly if all are, as long as each slot passed was.
use Prim.Native.Nat.{◌-◌}
use mathlib.Core.Path.{◌≡◌}
use lib.ListN.{length}
use Rattle.plan.specs.Tables.{rows}
use Rattle.plan.specs.Plan.{slots_good}
use Rattle.allowed.proofs.slots_good.Given as goal

abbrev pub invariant-loop-i : goal.invariant-loop-i
invariant-loop-i l = (length l.counts ≡ rows) × (length l.lengths ≡ rows)
    × (slots_good 0 rows l.counts l.lengths ≡ slots_good l.i (rows - l.i) l.counts l.lengths)
