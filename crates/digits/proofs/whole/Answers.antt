-- A sign or none is taken and the digits are read to the end: each return is the definition's branch at the byte that stood there.
use Prim.Native.Nat.{◌+◌, ◌-◌}
use mathlib.Core.Path.{sym, ap, ◌∙◌}
use native.Mathlib.Omega.{arith}
use lib.Dec.{eqb}
use lib.ListN.{length, get_or}
use lib.Seq.{slice}
use Rattle.digits.specs.Segments.{with_sign, signs, digits_of}
use Rattle.digits.proofs.Laws as laws
use Rattle.digits.proofs.WholeLaws as whole
use Rattle.digits.proofs.whole.Goals as goal

pub returns-then-from-n : goal.returns-then-from-n
returns-then-from-n c =
    let args = c.args in
    let pre = c.requires in
    record { is = sym (whole.sign_alone args.f.now args.k pre.skipped pre.k_in_bounds.0 (sym c.behind-from.ensures ∙ c.if-from-n.true)); small = tt }

pub run-requires-clause-end_bound : goal.run-requires-clause-end_bound
run-requires-clause-end_bound c =
    let args = c.args in
    omega (
      arith,
      laws.one_byte (get_or args.f.now args.k 0),
      c.behind-from.ensures,
      c.if-from-n.false,
      laws.none_yet (c.behind-from.result + 18 - length args.f.now),
    )

pub returns : goal.returns
returns c =
    let args = c.args in
    let pre = c.requires in
    let f = args.f.now in
    let x = get_or f args.k 0 in
    laws.made (eqb x 45) (digits_of 0 (slice (args.k + signs x) (length f) f))
    (c.with_sign.ensures ∙ ap (with_sign (eqb x 45))
    (c.run.ensures ∙ ap (λ y. digits_of 0 (slice y (length f) f)) c.behind-from.ensures))
    (laws.few f (args.k + signs x) (length f) 0 0 18 (omega arith) (laws.none_yet 0) (omega arith))
    (whole.from_byte f args.k pre.skipped pre.k_in_bounds.0 (λ e. c.if-from-n.false (c.behind-from.ensures ∙ e)))
