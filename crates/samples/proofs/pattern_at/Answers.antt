-- The pattern of what the line view shows there.
use Rattle.std.proofs.Common.{rules}
use Rattle.samples.specs.Asked.{pattern_of}
use Rattle.samples.proofs.pattern_at.Goals as goal

pub returns : goal.returns
unfolding pattern_of
returns c = search rules
