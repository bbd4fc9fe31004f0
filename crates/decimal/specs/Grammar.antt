-- How a number is written in a field, and what it says (document 01, "Written numbers"). This file and `Forms` are what a reader of the
-- numbers must believe. It says nothing of how a field is read: `proofs/Sound` and `proofs/Complete` show that the reader finds exactly this.
-- Assumes nothing.
use Rattle.std.specs.Prelude.{ℕ, ◌+◌, ◌-◌, ◌*◌, ◌≤◌, ◌≡◌, List, [], ◌∷◌, ◌++◌, Bool, true, false, length, replicate, ℤ, pos, neg_ℤ}
use Rattle.decimal.specs.Forms.{width_of, shape_of}
use Rattle.decimal.specs.declared.Form.{Form}
use Rattle.decimal.specs.declared.Shape.{Shape}
use Rattle.decimal.specs.declared.Shape.TheVariants.{Whole, Fixed, Expo}
use Rattle.decimal.specs.Written.{Written, number_written, blank as blank_written, badly as badly_written}

-- every byte is a digit, `0` to `9`
abbrev pub Numeral : List ℕ → Type 0
Numeral [] = Unit {0}
Numeral (c ∷ cs) = (48 ≤ c) × (c ≤ 57) × Numeral cs

-- the number that digits say behind a
abbrev pub after : ℕ → List ℕ → ℕ
after a [] = a
after a (c ∷ cs) = after (a * 10 + (c - 48)) cs

-- the two signs
pub data Sign : Type 0 where
  plus minus : Sign

-- `+` or `-`
abbrev pub mark : Sign → ℕ
mark plus = 43
mark minus = 45

-- the sign is a minus
abbrev pub negative : Sign → Bool
negative plus = false
negative minus = true

-- n blanks may stand behind a sign: any number where a gap is allowed, else none
abbrev pub Gap : Bool → ℕ → Type 0
Gap true n = Unit {0}
Gap false n = n ≡ 0

-- a sign or none, and blanks behind the sign where a gap is allowed: their bytes, and whether it is a minus
pub data Lead (gap : Bool) : List ℕ → Bool → Type 0 where
  bare : Lead gap [] false
  with : (g : Sign) (n : ℕ) → Gap gap n → Lead gap (mark g ∷ replicate n 32) (negative g)

-- the minus is applied to the digits; minus zero is 0
abbrev pub signed_of : Bool → ℕ → ℤ
signed_of true n = neg_ℤ (pos n)
signed_of false n = pos n

-- Iw: blanks, optional sign, which touches what follows, one or more digits to the field's end
pub data WholeNumber : List ℕ → ℤ → Type 0 where
  whole : (b : ℕ) {g : List ℕ} {s : Bool} (ds : List ℕ) → Lead false g s → Numeral ds → 1 ≤ length ds
      → WholeNumber (replicate b 32 ++ (g ++ ds)) (signed_of s (after 0 ds))

-- Fw.d: blanks, optional sign, blanks behind it where a gap is allowed, any number of digits, a point, exactly d digits, end; the number is in units of the
-- last written place
pub data PointNumber (gap : Bool) (d : ℕ) : List ℕ → ℤ → Type 0 where
  point : (b : ℕ) {g : List ℕ} {s : Bool} (ws ps : List ℕ) → Lead gap g s → Numeral ws → Numeral ps → length ps ≡ d
      → PointNumber gap d (replicate b 32 ++ (g ++ (ws ++ 46 ∷ ps))) (signed_of s (after 0 (ws ++ ps)))

-- a well-written field, and what it says. All blank is "blank". E: as F, then `E`, a sign, two digits
pub data Good (gap : Bool) : Shape → List ℕ → Written → Type 0 where
  blank : (k : Shape) (n : ℕ) → Good gap k (replicate n 32) blank_written
  whole : {bs : List ℕ} {m : ℤ} → WholeNumber bs m → Good gap Whole bs (number_written m (pos 0))
  fixed : {d : ℕ} {bs : List ℕ} {m : ℤ} → PointNumber gap d bs m → Good gap (Fixed d) bs (number_written m (pos 0))
  expo : {d : ℕ} {bs : List ℕ} {m : ℤ} → PointNumber gap d bs m → (g : Sign) (ds : List ℕ) → Numeral ds → length ds ≡ 2
      → Good gap (Expo d) (bs ++ 69 ∷ (mark g ∷ ds)) (number_written m (signed_of (negative g) (after 0 ds)))

-- a well-written field of a form: as many bytes as the form is wide. Blanks behind the sign of F and E are allowed or not
abbrev pub WellWrittenBy : Bool → Form → List ℕ → Written → Type 0
WellWrittenBy gap k bs r = (length bs ≡ width_of k) × Good gap (shape_of k) bs r

-- the product's rule: they are allowed (document 02, No. 4)
abbrev pub WellWritten : Form → List ℕ → Written → Type 0
WellWritten = WellWrittenBy true

-- what bytes say: what the well-written field with these bytes says, or, where there is none, that they are badly written
pub data Means (k : Form) (bs : List ℕ) : Written → Type 0 where
  well : {r : Written} → WellWritten k bs r → Means k bs r
  badly : ((r : Written) → WellWritten k bs r → ⊥) → Means k bs badly_written
