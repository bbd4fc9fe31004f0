-- Between the two infinities lie exactly the finite numbers.
use Rattle.floats.proofs.Laws.{top_no_nan, above_low, not_above_low}
use Rattle.floats.proofs.finite.Goals as goal

pub float_from_bits-top : goal.float_from_bits-top
float_from_bits-top c = top_no_nan

pub returns-then-top-x : goal.returns-then-top-x
returns-then-top-x c = above_low c.args.x c.if-top-x.true

pub returns-else-top-x : goal.returns-else-top-x
returns-else-top-x c = not_above_low c.args.x c.if-top-x.false
