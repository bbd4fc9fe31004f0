-- What is written in columns is read: as many digits as there are columns, which say the number where it is below the power of ten, by induction over the
-- columns; so a field of those bytes is well written and says it.
use Prim.Native.Nat.{ℕ, zero, suc, ◌+◌, ◌*◌, ◌-◌, ◌/◌, ◌%◌, ◌^◌, ◌≤◌, ◌<◌}
use mathlib.Core.Bool.{true}
use mathlib.Core.Path.{◌≡◌, refl, sym, ap, ◌∙◌, subst}
use mathlib.Core.List.{List, [], ◌∷◌, ◌++◌}
use native.Mathlib.Omega.{arith}
use native.Mathlib.Nat.{pow-suc, pow-zero}
use lib.IntN.{pos}
use lib.ListN.{length, length-append}
use Rattle.words.specs.Words.{place_of}
use Rattle.decimal.specs.Written.{number_written}
use Rattle.decimal.specs.Forms.{width_of, shape_of}
use Rattle.decimal.specs.Grammar.{Numeral, after, bare, Good, WholeNumber, whole}
use Rattle.decimal.specs.Grammar as grammar
use Rattle.decimal.specs.declared.Form.{Form}
use Rattle.decimal.specs.declared.Shape.{Shape}
use Rattle.decimal.specs.declared.Shape.TheVariants.{Whole}
use Rattle.decimal.proofs.Complete.{after_append}
use Rattle.fields.specs.Field.{field_bytes}
use Rattle.promises.specs.Bytes.{Bytes}
use Rattle.promises.specs.Newest.{Numbered}
use Rattle.first_records.specs.Allowed.{Within}
use Rattle.first_records.specs.FirstRecord.{columns}

numeral_join : (xs ys : List ℕ) → Numeral xs → Numeral ys → Numeral (xs ++ ys)
numeral_join [] ys h k = k
numeral_join (x ∷ xs) ys h k = (h.0, h.1, numeral_join xs ys h.2 k)

numeral_bytes : (xs : List ℕ) → Numeral xs → Bytes xs
numeral_bytes [] h = tt
numeral_bytes (x ∷ xs) h = (let u = h.1 in omega arith, numeral_bytes xs h.2)

-- as many digits as columns, which say the number
pub record Spelt (w n : ℕ) : Type 0 where
  pub size : length (columns w n) ≡ w
  pub digits : Numeral (columns w n)
  pub value : n < 10 ^ w → after 0 (columns w n) ≡ n

pub spelt : (w n : ℕ) → Spelt w n
unfolding columns
spelt zero n = record { size = refl; digits = tt; value = λ h. omega (arith, pow-zero 10) }
spelt (suc w) n =
    let r = spelt w (n / 10) in
    let xs : List ℕ = columns w (n / 10) in
    record {
      size = omega (arith, length-append xs ((48 + n % 10) ∷ []), r.size);
      digits = numeral_join xs ((48 + n % 10) ∷ []) r.digits (omega arith, omega arith, tt);
      value =
          λ h.
          let e = r.value (omega (arith, pow-suc 10 w)) in
          after_append 0 xs ((48 + n % 10) ∷ []) ∙ ap (λ (a : ℕ). a * 10 + (48 + n % 10 - 48)) e ∙ omega arith;
    }

pub columns_bytes : (w n : ℕ) → Bytes (columns w n)
columns_bytes w n = numeral_bytes (columns w n) (spelt w n).digits

-- digits alone are a whole number
columns_good : (w n : ℕ) → 1 ≤ w → n < 10 ^ w → Good true Whole (columns w n) (number_written (pos n) (pos 0))
columns_good w n h l =
    let s = spelt w n in
    subst (λ (m : ℕ). Good true Whole (columns w n) (number_written (pos m) (pos 0))) (s.value l)
    (Good.whole (WholeNumber.whole 0 (columns w n) bare s.digits (let e = s.size in omega arith)))

-- a field of those bytes says the number, and lies in a range that its columns hold
module _ (r : List ℕ) (byte : ℕ) (k : Form) (plain : shape_of k ≡ Whole) (wide : 1 ≤ width_of k) (lo hi n : ℕ) (short : hi < 10 ^ width_of k) where
  pub numbered : field_bytes r (place_of byte) k ≡ columns (width_of k) n → Within lo hi n → Numbered r byte k lo hi n
  numbered e h =
      record {
        says = subst (λ (bs : List ℕ). grammar.WellWritten k bs (number_written (pos n) (pos 0))) (sym e) (
          (spelt (width_of k) n).size,
          subst (λ (s : Shape). Good true s (columns (width_of k) n) (number_written (pos n) (pos 0))) (sym plain)
              (columns_good (width_of k) n wide (omega arith)),
        );
        least = h.low;
        most = h.high;
      }
