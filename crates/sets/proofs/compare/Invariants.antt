-- What is left to compare, behind the pointers that agree, is the whole comparison.
use Prim.Native.Nat.{◌+◌}
use mathlib.Core.Path.{◌≡◌}
use lib.ListN.{drop}
use Rattle.sets.specs.Set.{compare_from}
use Rattle.sets.proofs.compare.Given as goal

abbrev pub invariant-loop-i : goal.invariant-loop-i
invariant-loop-i l = compare_from 1 l.directory l.counts ≡ compare_from (l.i + 1) l.directory (drop l.i l.counts)
