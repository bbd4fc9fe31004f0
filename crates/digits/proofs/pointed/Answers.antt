-- The digits before the point, the point and the digits behind it are read one after the other: each return is the definition's branch at what was read.
use Prim.Native.Nat.{◌+◌, ◌-◌}
use mathlib.Core.Path.{sym, ap, ◌∙◌}
use native.Mathlib.Omega.{arith}
use Rattle.digits.specs.Segments.{digits_of}
use Rattle.digits.proofs.Laws as laws
use Rattle.digits.proofs.PointLaws as point
use Rattle.digits.proofs.pointed.Goals as goal

pub returns-then-point-from : goal.returns-then-point-from
returns-then-point-from c = let args = c.args in sym (point.late args.f.now args.from args.point args.end c.if-point-from.true)

pub run-requires-clause-end_bound : goal.run-requires-clause-end_bound
run-requires-clause-end_bound c = omega (arith, c.skip.ensures.from, c.skip.ensures.upto, laws.none_yet (c.skip.result + 18 - c.args.point))

pub returns-in_err-acc : goal.returns-in_err-acc
returns-in_err-acc c =
    let args = c.args in
    c.from_residual.ensures ∙ sym (point.stray args.f.now args.from args.point args.end c.if-point-from.false
    (sym (c.in_err-acc.ensures ∙ ap (digits_of 0) c.skip.ensures.rest)))

pub returns-then-f-point-ne46 : goal.returns-then-f-point-ne46
returns-then-f-point-ne46 c =
    let args = c.args in
    sym (point.pointless args.f.now args.from args.point args.end _ c.if-point-from.false
    (sym (c.in_ok-acc.ensures ∙ ap (digits_of 0) c.skip.ensures.rest)) c.if-f-point-ne46.true)

pub run-requires-2-clause-end_bound : goal.run-requires-2-clause-end_bound
run-requires-2-clause-end_bound c =
    let args = c.args in
    let few = point.head_few args.f.now args.from args.point args.end _
    (c.in_ok-acc.ensures ∙ ap (digits_of 0) c.skip.ensures.rest) (omega arith) c.if-point-from.false in
    (omega arith, laws.room (args.point + 1 + 18 - args.end) (omega arith) few)

pub returns : goal.returns
returns c =
    let args = c.args in
    c.run-2.ensures ∙ sym (point.both args.f.now args.from args.point args.end _ c.if-point-from.false
    (sym (c.in_ok-acc.ensures ∙ ap (digits_of 0) c.skip.ensures.rest)) c.if-f-point-ne46.false)
