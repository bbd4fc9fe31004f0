-- The kind, then two numbers twice.
use Rattle.card_build.proofs.BuildLaws as laws
use Rattle.card_build.proofs.put_first.Goals as goal

pub returns : goal.returns
returns c = laws.first_put c.args.p c.args.out.now _ _ c.requires c.put_two.ensures c.put_two-2.ensures
