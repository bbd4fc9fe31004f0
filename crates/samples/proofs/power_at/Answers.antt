-- The power of what the line view shows there.
use Rattle.std.proofs.Common.{rules}
use Rattle.samples.specs.Asked.{power_of}
use Rattle.samples.proofs.power_at.Goals as goal

pub returns : goal.returns
unfolding power_of
returns c = search rules
