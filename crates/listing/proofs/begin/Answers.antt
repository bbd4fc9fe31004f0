-- A budget of 0 passes nothing, a fresh state is good, and an image's walk is not refused.
use mathlib.Core.Path.{refl}
use Rattle.plan.specs.Plan.{image}
use Rattle.walk.proofs.BegunLaws.{not_refused}
use Rattle.listing.proofs.TurnLaws as laws
use Rattle.listing.proofs.begin.Goals as goal

pub returns-in-Ok : goal.returns-in-Ok
returns-in-Ok c = laws.begun_walked _ _ (c.in-Ok.ensures) c.walk.ensures

pub returns-in-Err : goal.returns-in-Err
returns-in-Err c = absurd (not_refused image refl _ (c.in-Err.ensures))
