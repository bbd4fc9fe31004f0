-- The definition's tests, one after the other.
use Rattle.plan.specs.Plan.{zero_plan?}
use borrow.Author.Rules.{rules}
use borrow.Author.Tests.{tests}
use Rattle.allowed.proofs.is_zero.Goals as goal

pub returns-then-slots_zero : goal.returns-then-slots_zero
unfolding zero_plan?
returns-then-slots_zero c = search (tests, rules)

pub returns-else-slots_zero : goal.returns-else-slots_zero
unfolding zero_plan?
returns-else-slots_zero c = search (tests, rules)
