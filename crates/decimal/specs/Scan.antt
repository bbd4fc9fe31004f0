-- What a field says as a function of its bytes: the parts that its form has (`Segments` of `digits`), put together as the functions of
-- `src/` do. Nobody need believe this file: `proofs/Sound` and `proofs/Complete` show that it says what `Grammar` says. Assumes nothing.
use Rattle.std.specs.Prelude.{ℕ, ◌+◌, ◌-◌, ◌≤◌, List, [], ◌∷◌, true, false, eqb, length, take, drop, pos, Option, Some, None}
use Rattle.words.specs.Tests.{pick}
use Rattle.digits.specs.Segments.{after_blanks, mantissa_of, exponent_of}
use Rattle.digits.specs.declared.Signed.{Signed}
use Rattle.decimal.specs.Forms.{width_of, shape_of}
use Rattle.decimal.specs.Grammar.{signed_of}
use Rattle.decimal.specs.declared.Form.{Form}
use Rattle.decimal.specs.declared.Shape.{Shape}
use Rattle.decimal.specs.declared.Shape.TheVariants.{Whole, Fixed, Expo}
use Rattle.decimal.specs.Written.{Written, number_written, blank, badly}

-- a mantissa alone is the number, with exponent 0
abbrev pub plain_of : Option Signed → Written
plain_of (Some x) = number_written (signed_of x.minus x.digits) (pos 0)
plain_of None = badly

-- a mantissa and an exponent, both read, are the number
abbrev pub scaled_of : Option Signed → Option Signed → Written
scaled_of (Some x) (Some y) = number_written (signed_of x.minus x.digits) (signed_of y.minus y.digits)
scaled_of (Some x) None = badly
scaled_of None y = badly

-- what the bytes of a field that is not blank say, by its shape
unfoldable pub number_in : Shape → List ℕ → Written
number_in Whole bs = plain_of (mantissa_of false 1 bs)
number_in (Fixed d) bs = plain_of (mantissa_of true d bs)
number_in (Expo d) bs = scaled_of (mantissa_of true d (take (length bs - 4) bs)) (exponent_of (drop (length bs - 4) bs))

-- blank where nothing is left after the blanks, else r
abbrev pub or_blank : List ℕ → Written → Written
or_blank [] r = blank
or_blank (c ∷ cs) r = r

-- what a field's bytes say, by its shape
unfoldable pub decimal_of : Shape → List ℕ → Written
decimal_of k bs = or_blank (after_blanks bs) (number_in k bs)

-- what bytes say as a field of a form: badly written where they are not as many as it is wide
unfoldable pub written : Form → List ℕ → Written
written k bs = pick (eqb (length bs) (width_of k)) (decimal_of (shape_of k) bs) badly

-- the widths at which a shape's number fits 64 bits
abbrev pub Fit : Shape → ℕ → Type 0
Fit Whole n = (2 ≤ n) × (n ≤ 18)
Fit (Fixed d) n = (d + 1 ≤ n) × (n ≤ 18)
Fit (Expo d) n = (d + 5 ≤ n) × (n ≤ 22)
