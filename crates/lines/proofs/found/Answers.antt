-- Tests that all hold find nothing; else a fault of the header is the answer, and where there is none, the body is judged: the definition's two cases.
use mathlib.Core.Path.{sym, ap₂, ◌∙◌}
use Rattle.std.proofs.Common.{rules}
use Rattle.words.specs.Tests.{both_of}
use Rattle.lines.specs.View.{found_in}
use Rattle.lines.proofs.FoundLaws as found
use Rattle.lines.proofs.found.Goals as goal

pub returns-then-fine : goal.returns-then-fine
returns-then-fine c =
    let args = c.args in
    let e = c.both-fine.ensures ∙ ap₂ both_of c.header_there.ensures c.line_there.ensures in
    sym (found.found_fine args.p args.k args.d args.r.now c.requires.0 (sym e ∙ c.if-fine.true))

pub returns-in_err-header : goal.returns-in_err-header
unfolding found_in
returns-in_err-header c = search rules

pub returns : goal.returns
unfolding found_in
returns c =
    let body = found.body_is c.args.p c.args.k c.args.d c.args.r.now c.requires.0 in search rules
