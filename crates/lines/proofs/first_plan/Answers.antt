-- The first record's wait or refusal, test by test; else the plan that it names.
use Rattle.std.proofs.Common.{◌≡◌, Result, ap, sym, ◌∙◌, subst, rules}
use Rattle.std.proofs.lemmas.Result.{err_from_is_err_and}
use Rattle.words.specs.declared.Refusal.{Refusal}
use Rattle.plan.specs.declared.Plan.{Plan}
use Rattle.verdicts.specs.Tests.{Verdict}
use Rattle.lines.specs.View.{Leads}
use Rattle.lines.specs.declared.Unshown.{Unshown}
use Rattle.lines.proofs.FirstLaws as first
use Rattle.lines.proofs.first_plan.Goals as goal

pub returns-then-len-lt12 : goal.returns-then-len-lt12
returns-then-len-lt12 c = first.view_short c.args.bytes.now c.if-len-lt12.true

pub returns-in_err-map_err : goal.returns-in_err-map_err
returns-in_err-map_err c =
    let p = err_from_is_err_and c.from_residual.result c.from_residual.ensures.1 in
    let head : c.map_err.result ≡ first.as_first c.first_header.result = search rules in
    let is = ap (λ (v : Verdict). first.as_first v) (sym c.first_header.ensures) ∙ sym head ∙ c.in_err-map_err.was in
    rw (p.1, p.2) (first.view_header c.args.bytes.now c.if-len-lt12.false _ is)

pub returns-then-len-lt720 : goal.returns-then-len-lt720
returns-then-len-lt720 c =
    let head : c.map_err.result ≡ first.as_first c.first_header.result = search rules in
    let fine = sym c.first_header.ensures ∙ first.fine_first _ (sym head ∙ c.in_ok-map_err.was) in
    first.view_cut c.args.bytes.now c.if-len-lt12.false fine c.if-len-lt720.true

pub returns : goal.returns
returns c =
    let head : c.map_err.result ≡ first.as_first c.first_header.result = search rules in
    let fine = sym c.first_header.ensures ∙ first.fine_first _ (sym head ∙ c.in_ok-map_err.was) in
    let body : c.map_err-2.result ≡ first.as_first c.of_image.result = search rules in
    let is = body ∙ ap (λ (y : Result Plan Refusal). first.as_first y) c.of_image.ensures in
    subst (λ (y : Result Plan Unshown). Leads c.args.bytes.now y) (sym is)
    (first.view_body c.args.bytes.now c.if-len-lt12.false fine c.if-len-lt720.false)
