-- The fields from i on have the first fault of all, since each field read was a number; what was read so far is what its field says.
use Prim.Native.Nat.{ℕ}
use mathlib.Core.Path.{◌≡◌, sym, ap, ◌∙◌}
use native.Mathlib.Omega.{arith}
use borrow.Author.Rules.{rules}
use lib.ListN.{length-set}
use mir.Syntax.{w64}
use mir.Val.{to_z, of_z}
use Rattle.std.specs.Prelude.{Ok}
use Rattle.decimal.specs.declared.Form.TheVariants.{I4}
use Rattle.verdicts.specs.Tests.{whole_of}
use Rattle.verdicts.specs.Numbers.{number, row_tests}
use Rattle.verdicts.proofs.TestLaws.{rows_end, named_fine}
use Rattle.verdicts.proofs.FillLaws.{fill_more, fill_done}
use Rattle.image.specs.Image.{image_numbers, image_row, row_number, numbers_of}
use Rattle.image.proofs.ImageLaws as laws
use Rattle.image.proofs.read_numbers.Goals as goal

pub loop-i-preserved : goal.loop-i-preserved
loop-i-preserved c =
    let a = c.args in
    let l = c.loop-i in
    let r = a.r.now in
    let q = sym c.number_at.ensures ∙ c.in_ok-number_at.was in
    let z : to_z w64 (of_z w64 c.in_ok-number_at.field-0.units) ≡ c.in_ok-number_at.field-0.units = search rules in
    record {
      size = length-set l.values l.i _ ∙ l.invariant.size;
      fine = l.invariant.fine ∙ laws.row_next a.sort r l.i q c.loop-i-test.true;
      values = fill_more (λ (k : ℕ). row_number r (image_row a.sort k)) l.values l.i c.whole.result (omega (arith, l.invariant.size, c.loop-i-test.true))
          (c.whole.ensures ∙ ap whole_of z ∙ laws.row_value a.sort r l.i q) l.invariant.values;
    }

pub returns : goal.returns
unfolding image_row numbers_of
returns c =
    let a = c.args in
    let l = c.loop-i in
    let r = a.r.now in
    ap Ok (fill_done (number 0 I4 0 0) (row_number r) l.values (image_numbers a.sort) l.invariant.size
    (λ k h. l.invariant.values k (omega (arith, c.loop-i-test.false))))
    ∙ named_fine _ (l.invariant.fine ∙ rows_end (row_tests r) (image_numbers a.sort) (number 0 I4 0 0) l.i 8 (omega arith) c.loop-i-test.false)
