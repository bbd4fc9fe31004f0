-- Five numbers written one after the other are the answer's, and those past them stay.
use Rattle.c_answer.proofs.ListLaws.{five_set}
use Rattle.c_answer.specs.Reply.{five_of}
use Rattle.c_answer.proofs.say.Goals as goal

pub returns : goal.returns
unfolding five_of
returns c = five_set c.args.t.tag c.args.t.a c.args.t.b c.args.t.c c.args.t.count c.args.answer.now c.requires
