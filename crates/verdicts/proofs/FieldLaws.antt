-- What the tests of one number field say in each case of the field, by computing them: a field handed on has the first fault of its tests, and says its
-- number.
use Prim.Native.Nat.{ℕ, ◌+◌, ◌≤◌}
use mathlib.Core.Path.{◌≡◌, refl, ap, subst}
use mathlib.Core.List.{List, [], ◌∷◌}
use mathlib.Core.Bool.{Bool, true, false}
use native.Mathlib.Omega.{arith}
use lib.Dec.{ltb}
use lib.IntN.{pos}
use lib.ListN.{length}
use Rattle.std.specs.Prelude.{Some, None, Ok, Err}
use Rattle.words.specs.Tests.{pick, within_of}
use Rattle.words.specs.Words.{place_of}
use Rattle.words.specs.Answer.{refusal_at}
use Rattle.words.specs.declared.Refusal.{Refusal}
use Rattle.decimal.specs.Forms.{width_of}
use Rattle.decimal.specs.Scan.{written}
use Rattle.decimal.specs.Written.{Written}
use Rattle.decimal.specs.declared.Form.{Form}
use Rattle.decimal.specs.declared.Form.TheVariants.{I4, I6, I8, I16, F8d3, F16d7, E20d13}
use Rattle.decimal.specs.declared.Number.{Number}
use Rattle.fields.specs.Field.{refuse, from_written, field_at, field_bytes, bad_place}
use Rattle.fields.specs.declared.Field.{Field}
use Rattle.fields.specs.declared.Field.TheVariants.{Value, Blank, Refused}
use Rattle.verdicts.specs.Tests.{test, first_fault, whole_in, whole_of, number_of, number_tests, count_tests, readable_test, fault_of, verdict_of}
use Rattle.verdicts.specs.Tests.{needed_of, counted_of}
use Rattle.verdicts.specs.Numbers.{at}

-- ---- a field's own refusal names no record

abbrev pub Unnamed : Field → Type 0
Unnamed f = (x : Refusal) → f ≡ Refused x → x ≡ refusal_at x.number x.place

refused_is : (n p : ℕ) → Unnamed (refuse n p)
refused_is n p x q = let z : refusal_at n p ≡ x = cc in subst (λ (y : Refusal). y ≡ refusal_at y.number y.place) z refl

pub at_unnamed : (r : List ℕ) (byte : ℕ) (k : Form) → Unnamed (at r byte k)
unfolding field_at
at_unnamed r byte k = go (ltb (length r) (place_of byte + width_of k)) (written k (field_bytes r (place_of byte) k))
  where
    go : (b : Bool) (w : Written) → Unnamed (pick b (refuse 2 0) (from_written (bad_place r (place_of byte) k) w))
    go true w = refused_is 2 0
    go false (Ok (Some m)) = λ x q. absurd (let z : ◌≡◌ {A = ℕ} 0 1 = cc in omega arith)
    go false (Ok None) = λ x q. absurd (let z : ◌≡◌ {A = ℕ} 0 1 = cc in omega arith)
    go false (Err w) = refused_is 6 (bad_place r (place_of byte) k)

-- ---- a field handed on has the first fault of its tests, and where it is a number, says it

-- whether the range holds
range_fault : (b : Bool) (m : Number) (at : ℕ) → verdict_of (pick b (Ok m) (Err (refusal_at 7 at))) ≡ first_fault (test b 7 at ∷ [])
unfolding first_fault
range_fault true m at = refl
range_fault false m at = refl

range_value : (b : Bool) (m n : Number) (at : ℕ) → pick b (Ok m) (Err (refusal_at 7 at)) ≡ Ok n → n ≡ m
range_value true m n at q = cc
range_value false m n at q = absurd (let z : ◌≡◌ {A = ℕ} 0 1 = cc in omega arith)

-- a field that must be a number
module _ (at last lo hi : ℕ) where
  pub needed_fault : (f : Field) → Unnamed f → verdict_of (needed_of f at last lo hi) ≡ first_fault (number_tests f at last lo hi)
  unfolding first_fault
  needed_fault (Value v e) u = range_fault (whole_in lo v hi) (record { units = v; exponent = e }) at
  needed_fault Blank u = refl
  needed_fault (Refused x) u = ap Err (u x refl)

  pub needed_number : (f : Field) {m : Number} → needed_of f at last lo hi ≡ Ok m → whole_of m.units ≡ number_of f
  needed_number (Value v e) {m} q = ap (λ (x : Number). whole_of x.units) (range_value (whole_in lo v hi) (record { units = v; exponent = e }) m at q)
  needed_number Blank q = absurd (let z : ◌≡◌ {A = ℕ} 0 1 = cc in omega arith)
  needed_number (Refused x) q = absurd (let z : ◌≡◌ {A = ℕ} 0 1 = cc in omega arith)

-- a count
module _ (at lo hi : ℕ) where
  pub counted_fault : (f : Field) → Unnamed f → verdict_of (counted_of f at lo hi) ≡ first_fault (count_tests f at lo hi)
  unfolding first_fault
  counted_fault (Value v e) u = range_fault (whole_in lo v hi) (record { units = v; exponent = e }) at
  counted_fault Blank u = range_fault (within_of lo 0 hi) (record { units = pos 0; exponent = pos 0 }) at
  counted_fault (Refused x) u = ap Err (u x refl)

  pub counted_number : (f : Field) {m : Number} → counted_of f at lo hi ≡ Ok m → whole_of m.units ≡ number_of f
  counted_number (Value v e) {m} q = ap (λ (x : Number). whole_of x.units) (range_value (whole_in lo v hi) (record { units = v; exponent = e }) m at q)
  counted_number Blank {m} q =
      ap (λ (x : Number). whole_of x.units) (range_value (within_of lo 0 hi) (record { units = pos 0; exponent = pos 0 }) m at q)
  counted_number (Refused x) q = absurd (let z : ◌≡◌ {A = ℕ} 0 1 = cc in omega arith)

-- a listed field: a value or blank
pub readable_fault : (at : ℕ) (f : Field) → Unnamed f → fault_of f ≡ first_fault (readable_test f at ∷ [])
unfolding first_fault
readable_fault at (Value v e) u = refl
readable_fault at Blank u = refl
readable_fault at (Refused x) u = ap Err (u x refl)

-- a field has a byte
pub some_byte : (k : Form) → 1 ≤ width_of k
some_byte I4 = omega arith
some_byte I6 = omega arith
some_byte I8 = omega arith
some_byte I16 = omega arith
some_byte F8d3 = omega arith
some_byte F16d7 = omega arith
some_byte E20d13 = omega arith
