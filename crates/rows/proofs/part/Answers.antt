-- The word is put, then the number's digits.
use native.Mathlib.Omega.{arith}
use Rattle.writing.proofs.NumeralLaws.{numeral_length}
use Rattle.rows.proofs.TextLaws as laws
use Rattle.rows.proofs.part.Goals as goal

pub numeral-requires : goal.numeral-requires
numeral-requires c =
    omega (arith, numeral_length 20 c.args.n, c.text-from.ensures.value, c.requires)

pub returns : goal.returns
returns c =
    let args = c.args in
    let text = c.text-from in
    let w = laws.part_is args.line.now text.new.out _ args.at text.result _ _ args.word.now
    c.requires (text.ensures.out_after, text.ensures.value) (c.numeral.ensures.out_after, c.numeral.ensures.value) in
    record { line_after = w.0; upper_bound = w.1.0; lower_bound = w.1.1.0; line_unchanged = w.1.1.1 }
