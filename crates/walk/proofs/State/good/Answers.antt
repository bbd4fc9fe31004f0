-- The total is computed only of a plan that the rules allow, where nothing wraps.
use mathlib.Core.Path.{sym, ◌∙◌}
use Rattle.plan.proofs.Bounds.{small_good}
use Rattle.walk.proofs.State.good.Goals as goal

pub total-requires : goal.total-requires
total-requires c = small_good _ _ (sym c.good.ensures ∙ c.if-good.true)
