-- Only an image behind its first record looks ahead, and at most to its last line: the lines found are as many turns that pass.
use native.Mathlib.Omega.{arith}
use Rattle.walk.proofs.AheadLaws as laws
use Rattle.walk.proofs.State.ahead.Goals as goal

pub overflow_add-left : goal.overflow_add-left
overflow_add-left c = let q = laws.image_state c.args.self c.requires c.if-self-ne-IMAGE.false c.if-self-eq0.false in omega (arith, q.1)

pub overflow_sub-left : goal.overflow_sub-left
overflow_sub-left c = let q = laws.image_state c.args.self c.requires c.if-self-ne-IMAGE.false c.if-self-eq0.false in omega (arith, q.0)

pub lines_ahead-requires : goal.lines_ahead-requires
lines_ahead-requires c =
    let q = laws.image_state c.args.self c.requires c.if-self-ne-IMAGE.false c.if-self-eq0.false in
    omega (arith, q.0, q.1, c.min.ensures)

pub returns : goal.returns
returns c =
    let a = c.args in
    let q = laws.image_state a.self c.requires c.if-self-ne-IMAGE.false c.if-self-eq0.false in
    laws.ahead_lines a.self a.b.now a.most _ c.lines_ahead.result c.requires c.if-self-ne-IMAGE.false c.if-self-eq0.false
    (omega (arith, c.min.ensures)) (omega (arith, q.0, c.min.ensures)) c.lines_ahead.ensures
