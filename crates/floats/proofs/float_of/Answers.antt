-- A NaN's pattern reads as the one NaN, which 0 / 0 is too; any other pattern is the machine's own float.
use mathlib.Core.Path.{sym, ◌∙◌}
use Rattle.floats.proofs.Laws.{no_nan_lem, zero_by_zero, reads_nan}
use Rattle.floats.proofs.float_of.Goals as goal

pub float_from_bits-result : goal.float_from_bits-result
float_from_bits-result c = no_nan_lem c.args.n c.if-n-gt2139095040.false

pub returns-then-n-gt2139095040 : goal.returns-then-n-gt2139095040
returns-then-n-gt2139095040 c = zero_by_zero ∙ sym (reads_nan c.args.n c.if-n-gt2139095040.true)
