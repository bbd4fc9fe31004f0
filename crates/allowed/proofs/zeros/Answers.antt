-- Every number is 0 exactly where the definition's test says so.
use borrow.Author.Rules.{rules}
use Rattle.plan.proofs.GoodLaws.{zero_is}
use Rattle.allowed.proofs.zeros.Goals as goal

pub returns : goal.returns
returns c = zero_is c.all.result c.args.a.now (search rules)
