-- The kit's sum of four bytes by their worth is the definition's.
use Rattle.std.proofs.Common.{rules}
use Rattle.words.specs.Words.{two_at, four_at}
use Rattle.complex_rows.proofs.number.Goals as goal

pub returns : goal.returns
unfolding four_at two_at
returns c = search rules
