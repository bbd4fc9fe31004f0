-- Where the power is finite both parts are, so the one test decides; a finite power is no NaN and has its pattern.
use mathlib.Core.Path.{sym, ◌∙◌}
use Rattle.floats.proofs.Laws.{fin_no_nan, power_yes, power_no}
use Rattle.floats.proofs.power_of.Goals as goal

pub float_to_bits-result : goal.float_to_bits-result
float_to_bits-result c = fin_no_nan _ (sym c.finite.ensures ∙ c.if-finite.true)

pub returns-then-finite : goal.returns-then-finite
returns-then-finite c =
    let args = c.args in
    let finite = sym c.finite.ensures ∙ c.if-finite.true in
    power_yes args.re args.im c.squares_of-p.result (cc) finite

pub returns-else-finite : goal.returns-else-finite
returns-else-finite c =
    let args = c.args in
    let none = sym c.finite.ensures ∙ c.if-finite.false in
    power_no args.re args.im c.squares_of-p.result (cc) none
