-- The floats of what stands there are the sample.
use Rattle.std.proofs.Common.{rules}
use Rattle.samples.specs.Samples.{sampled_by}
use Rattle.samples.proofs.sample_in.Goals as goal

pub returns : goal.returns
unfolding sampled_by
returns c = search rules
