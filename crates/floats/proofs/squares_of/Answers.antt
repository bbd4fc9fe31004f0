-- The code's two products and their sum are the definition's, in its order.
use mathlib.Core.Path.{refl}
use Rattle.floats.specs.Floats.{squares}
use Rattle.floats.proofs.squares_of.Goals as goal

pub returns : goal.returns
unfolding squares
returns c = refl
