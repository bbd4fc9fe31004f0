-- Each number is read at its index, and the two tables by `every_second`.
use Rattle.c_state.specs.Numbers.{state_in}
use Rattle.c_state.proofs.get.Goals as goal

pub returns : goal.returns
unfolding state_in
returns c = simp (
  c.every_second-counts.ensures,
  c.every_second-lengths.ensures,
)
