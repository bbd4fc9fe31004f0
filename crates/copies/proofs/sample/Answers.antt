-- The kit's sum of two bytes by their worth is the definition's.
use Rattle.words.specs.Words.{two_at}
use Rattle.std.proofs.Common.{rules}
use Rattle.copies.proofs.sample.Goals as goal

pub returns : goal.returns
unfolding two_at
returns c = search rules
