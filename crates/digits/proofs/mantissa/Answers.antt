-- From the first byte that is no blank on: behind the point's place it is wrong, else a sign joins the digits on both sides of the point.
use Prim.Native.Nat.{◌+◌, ◌-◌}
use mathlib.Core.Path.{sym, ap, ◌∙◌}
use native.Mathlib.Omega.{arith}
use lib.Dec.{eqb}
use lib.ListN.{get_or}
use Rattle.digits.specs.Segments.{with_sign, signs, pointed_of}
use Rattle.digits.proofs.Laws as laws
use Rattle.digits.proofs.PointLaws as point
use Rattle.digits.proofs.mantissa.Goals as goal

pub returns-then-point-k : goal.returns-then-point-k
returns-then-point-k c =
    let args = c.args in
    let pre = c.requires in
    record {
      is = sym (point.blank_point args.f.now args.k args.places args.end pre.skipped pre.k_in_bounds.1 pre.end_in_bounds.0
          c.if-point-k.true);
      small = tt;
    }

pub returns : goal.returns
returns c =
    let args = c.args in
    let pre = c.requires in
    let f = args.f.now in
    let x = get_or f args.k 0 in
    let h = args.end - args.places - 1 in
    laws.made (eqb x 45) (pointed_of f (args.k + signs x) h args.end)
    (c.with_sign.ensures ∙ ap (with_sign (eqb x 45))
    (c.pointed.ensures ∙ ap (λ y. pointed_of f y h args.end) c.behind.ensures))
    (point.fits f (args.k + signs x) h args.end (omega arith) pre.end_in_bounds.0 pre.end_in_bounds.1)
    (point.from_byte f args.k args.places args.end pre.skipped pre.k_in_bounds.1 pre.end_in_bounds.0 c.if-point-k.false)
