-- The power of what stands at the sample's place, which lies among the line's data pixels.
use Rattle.std.proofs.Common.{◌≡◌, true, ap, ◌∙◌, ok_or, rules}
use Rattle.words.specs.declared.Refusal.{Refusal}
use Rattle.lines.specs.declared.Unshown.TheVariants.{Refused}
use Rattle.samples.specs.Samples.{is_complex, on_power}
use Rattle.samples.proofs.SampleLaws as laws
use Rattle.samples.proofs.power_in.Goals as goal

pub returns : goal.returns
returns c =
    let args = c.args in
    let sort : is_complex args.sort ≡ true = search rules in
    c.ok_or.ensures.value
    ∙ ap (λ (r : Refusal). ok_or c.power_of.result (Refused r)) c.bare-2.ensures
    ∙ ap on_power c.power_of.ensures
    ∙ laws.power_there args.v args.sort args.bytes.now args.index _ c.in_ok-shown.was sort c.if-index-shown.false _ c.place_of-at.ensures.0 _
    c.patterns_there-p.ensures
