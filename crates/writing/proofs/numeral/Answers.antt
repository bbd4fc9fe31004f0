-- The digits that `io` makes are the number's numeral, and they are put as a text.
use Prim.Native.Nat.{ℕ, ◌+◌, ◌≤◌}
use mathlib.Core.Path.{ap, ◌∙◌}
use mathlib.Core.List.{List}
use native.Mathlib.Omega.{arith}
use lib.ListN.{length}
use borrow.Author.Rules.{rules}
use Rattle.writing.specs.Writing.{written}
use Rattle.writing.proofs.NumeralLaws as laws
use Rattle.writing.proofs.numeral.Goals as goal

pub text-requires : goal.text-requires
text-requires c =
    let decimal = c.decimal-k in
    let k : decimal.result ≤ 20 = laws.few_digits _ _ (search rules) decimal.ensures.len in
    let e = decimal.ensures.digits ∙ laws.numeral_is _ _ k decimal.ensures.len in
    omega (arith, ap length e, c.requires)

pub returns : goal.returns
returns c =
    let decimal = c.decimal-k in
    let args = c.args in
    let k : decimal.result ≤ 20 = laws.few_digits _ _ (search rules) decimal.ensures.len in
    let e = decimal.ensures.digits ∙ laws.numeral_is _ _ k decimal.ensures.len in
    record {
      out_after = c.text.ensures.out_after ∙ ap (written args.out.now args.at) e;
      value = c.text.ensures.value ∙ ap (λ (t : List ℕ). args.at + length t) e;
    }
