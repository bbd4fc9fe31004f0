-- An exponent's four bytes are tested from the left: each return is the definition's branch.
use Prim.Native.Nat.{◌+◌}
use mathlib.Core.Path.{ap, ◌∙◌}
use mathlib.Core.Bool.{true, false}
use native.Mathlib.Omega.{arith}
use lib.Seq.{slice}
use borrow.Author.Tests.{eq-eqb, ne_eqb}
use Rattle.digits.specs.Segments.{with_sign, digits_of}
use Rattle.digits.proofs.Laws as laws
use Rattle.digits.proofs.exponent.Goals as goal

pub returns-then-f-at-ne69 : goal.returns-then-f-at-ne69
returns-then-f-at-ne69 c =
    let args = c.args in
    record { is = rw (laws.exp_is args.f.now args.at c.requires, ne_eqb _ _ c.if-f-at-ne69.true); small = tt }

pub returns-then-c-eq45 : goal.returns-then-c-eq45
returns-then-c-eq45 c =
    let args = c.args in
    let pre = c.requires in
    let f = args.f.now in
    laws.made true (digits_of 0 (slice (args.at + 2) (args.at + 4) f)) (c.with_sign.ensures ∙ ap (with_sign true) c.run.ensures)
    (laws.few f (args.at + 2) (args.at + 4) 0 0 18 (omega (arith, pre)) (laws.none_yet 0) (omega arith))
    (rw (laws.exp_is f args.at pre, eq-eqb _ 69 c.if-f-at-ne69.false, eq-eqb _ 45 c.if-c-eq45.true))

pub returns-then-c-eq43 : goal.returns-then-c-eq43
returns-then-c-eq43 c =
    let args = c.args in
    let pre = c.requires in
    let f = args.f.now in
    laws.made false (digits_of 0 (slice (args.at + 2) (args.at + 4) f)) (c.with_sign-then-c-eq43.ensures ∙ ap (with_sign false) c.run-then-c-eq43.ensures)
    (laws.few f (args.at + 2) (args.at + 4) 0 0 18 (omega (arith, pre)) (laws.none_yet 0) (omega arith))
    (rw (
      laws.exp_is f args.at pre,
      eq-eqb _ 69 c.if-f-at-ne69.false,
      ne_eqb _ 45
          c.if-c-eq45.false,
      eq-eqb _ 43 c.if-c-eq43.true,
    ))

pub returns : goal.returns
returns c =
    let args = c.args in
    record {
      is = rw (
        laws.exp_is args.f.now args.at c.requires,
        eq-eqb _ 69 c.if-f-at-ne69.false,
        ne_eqb _ _ c.if-c-eq45.false,
        ne_eqb _ _ c.if-c-eq43.false,
      );
      small = tt;
    }
