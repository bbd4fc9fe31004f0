-- The digits that are left, behind what was read, say what all say: the loop's invariant; each digit fits since no field in use has more than eighteen.
use Prim.Native.Nat.{◌+◌, ◌-◌}
use mathlib.Core.Path.{◌≡◌, sym, ap, ◌∙◌}
use native.Mathlib.Omega.{arith}
use lib.ListN.{length, take, drop}
use lib.Seq.{take-length}
use Rattle.digits.specs.Segments.{digits_of}
use Rattle.digits.proofs.Laws as laws
use Rattle.digits.proofs.run.Goals as goal

pub loop-c-init : goal.loop-c-init
loop-c-init c =
    let args = c.args in
    let pre = c.requires in
    let n : length (take (args.end - args.at) (drop args.at args.f.now)) ≡ args.end - args.at = laws.length_part args.f.now args.at args.end pre.at_le_end.1 in
    record {
      few = omega (arith, n, pre.end_bound.0);
      fits = laws.room _ (omega (arith, n, pre.at_le_end.0, pre.end_bound.0)) pre.end_bound.1;
      same = ap (digits_of args.acc) (take-length _ ∙ laws.part args.f.now args.at args.end pre.at_le_end.0);
    }

pub overflow_mul-n : goal.overflow_mul-n
overflow_mul-n c =
    let l = c.loop-c in
    omega (arith, laws.room 17 {i = l.c-index + 18 - length (take (c.args.end - c.args.at) (drop c.args.at c.args.f.now))} (omega arith) l.invariant.fits)

pub overflow_add-n : goal.overflow_add-n
overflow_add-n c =
    let l = c.loop-c in
    omega (arith, laws.room 17 {i = l.c-index + 18 - length (take (c.args.end - c.args.at) (drop c.args.at c.args.f.now))} (omega arith) l.invariant.fits)

pub loop-c-preserved : goal.loop-c-preserved
loop-c-preserved c =
    let l = c.loop-c in record {
      few = l.invariant.few;
      fits = laws.grows_to _ _ _ _ (omega (arith, l.invariant.few)) l.invariant.fits c.if-c-gt57.false;
      same = sym (laws.run_more _ _ _ c.loop-c-test.true (omega arith) _ c.if-c-lt48.false c.if-c-gt57.false) ∙ l.invariant.same;
    }
