-- Three runs of pairs, one behind the other.
use mathlib.Core.Path.{◌∙◌}
use Rattle.cards.proofs.NumbersLaws as laws
use Rattle.cards.proofs.numbers.Goals as goal

pub returns-clause-out_after : goal.returns-clause-out_after
returns-clause-out_after c =
    let args = c.args in
    laws.three_runs _ _ args.card.now args.out.now _ _ _ c.if-out-read.false c.pairs.ensures c.pairs-2.ensures c.pairs-3.ensures
    ∙ laws.card_list args.card.now args.out.now _ c.check.ensures.value _ c.in_ok-read.was c.if-out-read.false
