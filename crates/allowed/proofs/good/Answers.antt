-- Each return is the definition's branch for that kind.
use mathlib.Core.Path.{sym, ap, ◌∙◌}
use mathlib.Core.Bool.{Bool}
use native.Mathlib.Omega.{arith}
use borrow.Author.Tests.{eq-eqb, ne_eqb}
use Rattle.words.specs.Tests.{both_of}
use Rattle.plan.specs.Plan.{zero_plan?}
use Rattle.plan.proofs.GoodLaws as laws
use Rattle.allowed.proofs.good.Goals as goal

pub returns-in-1 : goal.returns-in-1
returns-in-1 c = c.volume_good.ensures ∙ sym (laws.good_volume _ _ c.in-1.is)

pub returns-in-2 : goal.returns-in-2
returns-in-2 c = c.leader_good.ensures ∙ sym (laws.good_leader _ _ (λ e. omega arith) c.in-2.is)

pub returns-in-3 : goal.returns-in-3
returns-in-3 c = c.image_good.ensures ∙ sym (laws.good_image _ _ (λ e. omega arith) (λ e. omega arith) c.in-3.is)

pub returns-then-kind-eq-TRAILER : goal.returns-then-kind-eq-TRAILER
returns-then-kind-eq-TRAILER c =
    c.is_zero.ensures
    ∙ sym (laws.good_trailer _ _ (λ e. omega arith) (λ e. omega arith) (λ e. omega arith)
    ∙ ap (λ (t : Bool). both_of t (zero_plan? c.args.p)) (eq-eqb _ _ c.if-kind-eq-TRAILER.true))

pub returns-else-kind-eq-TRAILER : goal.returns-else-kind-eq-TRAILER
returns-else-kind-eq-TRAILER c =
    let n = ne_eqb _ _ c.if-kind-eq-TRAILER.false in
    n ∙ sym (laws.good_trailer _ _ (λ e. omega arith) (λ e. omega arith) (λ e. omega arith) ∙ ap (λ (t : Bool). both_of t (zero_plan? c.args.p)) n)
