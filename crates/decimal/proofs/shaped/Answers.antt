-- The field is blank, or it is read from its first byte that is no blank on: each return is the definition's branch.
use native.Mathlib.Omega.{arith}
use mathlib.Core.Path.{sym, ◌∙◌}
use Rattle.decimal.proofs.Laws as laws
use Rattle.decimal.proofs.shaped.Goals as goal

pub returns-then-k-n : goal.returns-then-k-n
returns-then-k-n c =
    let args = c.args in
    let skip = c.skip-k in
    c.number_in.ensures
    ∙ sym (laws.blank_no args.shape args.f.now skip.result skip.ensures.rest skip.ensures.upto (λ e. omega (arith, c.if-k-n.true)))

pub returns : goal.returns
returns c =
    let args = c.args in
    let skip = c.skip-k in
    sym (laws.blank_yes args.shape args.f.now skip.result skip.ensures.rest (omega (arith, c.if-k-n.false, skip.ensures.upto)))
