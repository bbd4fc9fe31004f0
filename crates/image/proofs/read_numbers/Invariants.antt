-- The fields from i on have the first fault of all, since each field read was a number; what was read so far is what its field says.
use Prim.Native.Nat.{ℕ, ◌<◌}
use mathlib.Core.Path.{◌≡◌}
use lib.ListN.{length, get_or}
use Rattle.verdicts.specs.Tests.{first_fault}
use Rattle.verdicts.specs.Numbers.{numbers_tests}
use Rattle.image.specs.Image.{image_numbers, image_row, row_number}
use Rattle.image.proofs.ImageLaws.{left}
use Rattle.image.proofs.read_numbers.Given as goal

abbrev pub invariant-loop-i : goal.invariant-loop-i
invariant-loop-i l = record {
  size : length l.values ≡ 8;
  fine : first_fault (numbers_tests l.r (image_numbers l.sort)) ≡ first_fault (left l.sort l.r l.i);
  values : (k : ℕ) → k < l.i → get_or l.values k 0 ≡ row_number l.r (image_row l.sort k);
}
