-- Tests that all hold find nothing; else the header is judged test by test.
use mathlib.Core.Path.{sym, ap, ◌∙◌}
use Rattle.plan.specs.Plan.{image, first_codes}
use Rattle.plan.specs.declared.Codes.{Codes}
use Rattle.verdicts.specs.Tests.{all_hold}
use Rattle.headers.specs.Header.{header_tests}
use Rattle.lines.proofs.FoundLaws.{head_fine}
use Rattle.lines.proofs.first_header.Goals as goal

pub returns-then-header_there : goal.returns-then-header_there
returns-then-header_there c =
    let b = c.args.b.now in
    let e = c.header_there.ensures ∙ ap (λ (c : Codes). all_hold (header_tests 1 c 720 b)) c.first_codes-codes.ensures in
    sym (head_fine 1 (first_codes image) 720 b (sym e ∙ c.if-header_there.true))
