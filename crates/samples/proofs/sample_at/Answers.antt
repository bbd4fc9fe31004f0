-- The sample of what the line view shows there.
use Rattle.std.proofs.Common.{rules}
use Rattle.samples.specs.Asked.{sample_of}
use Rattle.samples.proofs.sample_at.Goals as goal

pub returns : goal.returns
unfolding sample_of
returns c = search rules
