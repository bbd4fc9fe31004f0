-- The slots from i on are good exactly if all are, as long as each slot passed was.
use mathlib.Core.Path.{sym, ◌∙◌}
use native.Mathlib.Omega.{arith}
use Rattle.plan.proofs.GoodLaws as laws
use Rattle.allowed.proofs.slots_good.Goals as goal

pub returns-then-not-slot_good : goal.returns-then-not-slot_good
returns-then-not-slot_good c =
    let l = c.loop-i in
    sym (l.invariant.2 ∙ laws.slots_bad l.i _ _ c.loop-i-test.true (sym c.slot_good.ensures ∙ c.if-not-slot_good.true))

pub loop-i-preserved : goal.loop-i-preserved
loop-i-preserved c = let l = c.loop-i in (
  l.invariant.0,
  l.invariant.1,
  l.invariant.2 ∙ laws.slots_more l.i _ _ c.loop-i-test.true (sym c.slot_good.ensures ∙ c.if-not-slot_good.false),
)

pub returns : goal.returns
returns c = let l = c.loop-i in sym (l.invariant.2 ∙ laws.slots_end l.i _ _ (omega arith))
