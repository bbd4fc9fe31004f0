-- The pointers' codes and the text's stand behind the descriptors' four; whatever is behind them is none.
use mathlib.Core.Path.{sym, ◌∙◌}
use Rattle.plan.proofs.CodeLaws as laws
use Rattle.plan.proofs.codes_of.Goals as goal

pub returns-in-1 : goal.returns-in-1
returns-in-1 c = c.other_codes.ensures ∙ laws.other_min c.args.run _ c.min.ensures
    ∙ sym (laws.codes_volume c.args.kind c.args.p c.args.run c.if-run-eq0.false c.in-1.is)
