-- Four bytes twice are the two patterns, which 32 bits hold.
use Rattle.samples.proofs.patterns_there.Goals as goal

pub returns : goal.returns
returns c = cc
