-- What stands at the sample's place, which lies among the line's data pixels.
use Rattle.std.proofs.Common.{ℕ, Ok, ap, ◌∙◌}
use Rattle.samples.specs.declared.Sample.{Sample}
use Rattle.samples.proofs.SampleLaws as laws
use Rattle.samples.proofs.pattern_in.Goals as goal

pub returns-then-index-shown : goal.returns-then-index-shown
returns-then-index-shown c =
    let args = c.args in
    ap (λ (x : Sample ℕ). Ok x) c.stands_at.ensures
    ∙ laws.pattern_there args.v args.sort args.bytes.now args.index _ c.in_ok-shown.was c.if-index-shown.true _ c.place_of-at.ensures.0
