-- What was passed and the place in what is left make the place in all: the loop's invariant.
use Prim.Native.Nat.{◌+◌}
use mathlib.Core.Path.{◌≡◌, sym, ap, ◌∙◌}
use mathlib.Core.Bool.{true, false}
use native.Mathlib.Omega.{arith}
use lib.ListN.{get_or, drop}
use Rattle.bad_byte.specs.Columns.{pointed?, next_of, wrong?, bad_from}
use Rattle.bad_byte.proofs.Laws as laws
use Rattle.bad_byte.proofs.place.Goals as goal

pub loop-i-init : goal.loop-i-init
loop-i-init c = laws.begun c.args.shape c.args.f.now

pub returns-then-wrong-clause-value : goal.returns-then-wrong-clause-value
returns-then-wrong-clause-value c =
    let args = c.args in
    let loop = c.loop-i in
    let next = c.next-stage in
    let f = args.f.now in
    let t : next.result ≡ laws.next_at args.shape loop.stage f loop.i =
    next.ensures ∙ ap (λ g. next_of g loop.stage c.column_at.result (get_or f loop.i 0)) c.pointed-gap.ensures
    ∙ ap (λ k. next_of (pointed? args.shape) loop.stage k (get_or f loop.i 0)) c.column_at.ensures in
    let w : wrong? (laws.next_at args.shape loop.stage f loop.i) ≡ true = sym (c.wrong.ensures ∙ ap wrong? t) ∙ c.if-wrong.true in
    omega (arith, laws.stopped args.shape loop.stage f loop.i c.loop-i-test.true w, loop.invariant)

pub loop-i-preserved : goal.loop-i-preserved
loop-i-preserved c =
    let args = c.args in
    let loop = c.loop-i in
    let next = c.next-stage in
    let f = args.f.now in
    let t : next.result ≡ laws.next_at args.shape loop.stage f loop.i =
    next.ensures ∙ ap (λ g. next_of g loop.stage c.column_at.result (get_or f loop.i 0)) c.pointed-gap.ensures
    ∙ ap (λ k. next_of (pointed? args.shape) loop.stage k (get_or f loop.i 0)) c.column_at.ensures in
    let w : wrong? (laws.next_at args.shape loop.stage f loop.i) ≡ false = sym (c.wrong.ensures ∙ ap wrong? t) ∙ c.if-wrong.false in
    ap (λ x. loop.i + 1 + bad_from args.shape x (drop (loop.i + 1) f)) t
    ∙ sym (laws.passed args.shape loop.stage f loop.i c.loop-i-test.true w) ∙ loop.invariant

pub returns-clause-value : goal.returns-clause-value
returns-clause-value c =
    let a = c.args in
    let loop = c.loop-i in
    omega (arith, laws.ended a.shape loop.stage a.f.now loop.i (omega arith), loop.invariant)
