-- The lines found so far and those left to be found are as many as there are in all; the next one begins behind those found.
use Rattle.ahead.proofs.LineLaws as laws
use native.Mathlib.Omega.{arith}
use mathlib.Core.Path.{◌≡◌, sym, ◌∙◌}
use Prim.Native.Nat.{◌+◌}
use Rattle.ahead.proofs.lines_ahead.Goals as goal

pub returns-then-not-line_fine : goal.returns-then-not-line_fine
returns-then-not-line_fine c =
    let a = c.args in
    let loop = c.loop-c in
    laws.count_stop a.sort a.w a.l a.k a.most loop.c loop.at a.b.now loop.invariant.1 (omega arith) (sym c.line_fine.ensures ∙ c.if-not-line_fine.true)

pub overflow_add-at : goal.overflow_add-at
overflow_add-at c =
    let a = c.args in
    let loop = c.loop-c in
    omega (arith, laws.fine_room a.sort a.w a.l (a.k + loop.c) loop.at a.b.now loop.invariant.0 (sym c.line_fine.ensures ∙ c.if-not-line_fine.false))

pub loop-c-preserved : goal.loop-c-preserved
loop-c-preserved c =
    let a = c.args in
    let loop = c.loop-c in
    let f = sym c.line_fine.ensures ∙ c.if-not-line_fine.false in (
      laws.fine_room a.sort a.w a.l (a.k + loop.c) loop.at a.b.now loop.invariant.0 f,
      laws.count_more a.sort a.w a.l a.k a.most loop.c loop.at a.b.now loop.invariant.1 (omega arith) f,
    )

pub returns : goal.returns
returns c =
    let a = c.args in
    let loop = c.loop-c in
    let e : a.most ≡ loop.c = omega arith in
    e ∙ laws.count_full a.sort a.w a.l a.k a.most loop.c loop.at a.b.now loop.invariant.1 (omega arith)
