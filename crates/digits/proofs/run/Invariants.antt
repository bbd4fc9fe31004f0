-- The digits that are left, behind what was read, say what all say: the loop's invariant; each digit fits since no field in use has more than eighteen.
use Prim.Native.Nat.{◌≤◌, ◌<◌, ◌+◌, ◌-◌, ◌^◌}
use mathlib.Core.Path.{◌≡◌}
use lib.ListN.{length}
use lib.Seq.{slice}
use Rattle.digits.specs.Segments.{digits_of}
use Rattle.digits.proofs.run.Given as goal

abbrev pub invariant-loop-c : goal.invariant-loop-c
invariant-loop-c l = record {
  few : length l.c-items ≤ 18;
  fits : l.n < 10 ^ (l.c-index + 18 - length l.c-items);
  same : digits_of l.n (slice l.c-index (length l.c-items) l.c-items) ≡ digits_of l.acc (slice l.at l.end l.f);
}
