-- The closed walk's refusal, or the plan that it has; a walk of a known kind is begun.
use mathlib.Core.Path.{sym, ap, ◌∙◌}
use Rattle.walk.proofs.BegunLaws.{begun_walks, not_refused}
use Rattle.card_build.specs.Build.{named_by}
use Rattle.card_build.proofs.AnswerLaws.{named_plan, named_refused}
use Rattle.card_build.proofs.named.Goals as goal

pub returns-in_err-fresh : goal.returns-in_err-fresh
returns-in_err-fresh c = absurd (not_refused c.args.kind c.requires _ (sym c.in_err-fresh.was ∙ c.begin.ensures))

pub returns-in-Refused : goal.returns-in-Refused
returns-in-Refused c =
    let begun = sym c.in_ok-fresh.was ∙ c.begin.ensures in
    named_refused c.walk-walked.result _ c.in-Refused.is
    ∙ ap named_by (begun_walks c.args.kind 17000002 c.args.bytes.now _ c.requires _ c.walk-walked.result begun c.walk-walked.ensures)

pub returns : goal.returns
returns c =
    let begun = sym c.in_ok-fresh.was ∙ c.begin.ensures in
    named_plan c.walk-walked.result c.in_default.not-Refused
    ∙ ap named_by (begun_walks c.args.kind 17000002 c.args.bytes.now _ c.requires _ c.walk-walked.result begun c.walk-walked.ensures)
