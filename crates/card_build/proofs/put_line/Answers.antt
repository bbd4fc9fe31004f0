-- The kind, the line number, then two numbers.
use Rattle.card_build.proofs.BuildLaws as laws
use Rattle.card_build.proofs.put_line.Goals as goal

pub returns : goal.returns
returns c =
    let args = c.args in
    laws.line_put args.out.now args.at args.k args.left args.count _ _ c.requires c.four.ensures c.put_two.ensures
