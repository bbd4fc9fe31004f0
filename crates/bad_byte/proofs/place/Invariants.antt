-- What was passed and the place in what is left make the place in all: the loop's invariant.
use Prim.Native.Nat.{◌+◌}
use mathlib.Core.Path.{◌≡◌}
use lib.ListN.{drop}
use Rattle.bad_byte.specs.Columns.{bad_from, bad_in}
use Rattle.bad_byte.proofs.place.Given as goal

abbrev pub invariant-loop-i : goal.invariant-loop-i
invariant-loop-i l = l.i + bad_from l.shape l.stage (drop l.i l.f) ≡ bad_in l.shape l.f
