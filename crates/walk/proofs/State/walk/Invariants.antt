-- What is left of the walk from the state reached, behind the records passed, is the whole walk: the loop's invariant. A bad state is answered before the
-- loop, a passed record leaves a good one, and lines that pass one after the other are as many turns.
use Rattle.walk.specs.Walk.{walk_of, more}
use Rattle.walk.specs.State.{good_state}
use lib.ListN.{length, drop}
use mathlib.Core.Bool.{true}
use mathlib.Core.Path.{◌≡◌}
use Prim.Native.Nat.{◌-◌, ◌≤◌}
use Rattle.walk.proofs.State.walk.Given as goal

abbrev pub invariant-loop-n : goal.invariant-loop-n
invariant-loop-n l = (l.at ≤ length l.bytes) × (l.n ≤ l.budget) × (good_state l.st ≡ true) ×
    (walk_of l.budget l.initial.st l.bytes l.closed ≡ more l.n (walk_of (l.budget - l.n) l.st (drop l.at l.bytes) l.closed))

abbrev pub decreases-loop-n : goal.decreases-loop-n
decreases-loop-n l = l.budget - l.n
