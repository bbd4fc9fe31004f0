-- What is left to write behind the pairs that are written gives the whole.
use mathlib.Core.Path.{sym, ◌∙◌}
use native.Mathlib.Omega.{arith}
use lib.ListN.{length-set}
use Rattle.cards.proofs.LoopLaws as laws
use Rattle.cards.proofs.pairs.Goals as goal

pub loop-i-preserved : goal.loop-i-preserved
loop-i-preserved c =
    let args = c.args in
    let pre = c.requires in
    let loop = c.loop-i in
    let two = c.two_at-one in (
      simp length-set loop.invariant.0,
      loop.invariant.1 ∙ laws.pairs_next args.count loop.i args.from args.step args.to args.card.now loop.out two.result.0
          two.result.1 c.loop-i-test.true (omega (arith, pre.3, loop.invariant.0)) two.ensures.0 two.ensures.1,
    )

pub returns : goal.returns
returns c =
    let args = c.args in
    let loop = c.loop-i in
    sym (loop.invariant.1 ∙ laws.pairs_end args.count loop.i args.from args.step args.to args.card.now loop.out c.loop-i-test.false)
