-- The first place that holds no blank: what is left from there is what is left after the blanks.
use mathlib.Core.Path.{◌≡◌}
use lib.Seq.{slice}
use Rattle.digits.specs.Segments.{after_blanks}
use Rattle.digits.proofs.skip.Given as goal

abbrev pub invariant-loop-i : goal.invariant-loop-i
invariant-loop-i l = after_blanks (slice l.i l.end l.f) ≡ after_blanks (slice l.at l.end l.f)
