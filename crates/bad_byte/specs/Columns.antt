-- The first bad byte of a field as a function of its bytes, column by column: what the functions of `src/` compute. Nobody need believe this file:
-- `proofs/Named` shows that it says what `BadByte` says. Assumes nothing.
use Rattle.std.specs.Prelude.{ℕ, suc, ◌-◌, List, [], ◌∷◌, Bool, true, false, eqb, ltb, length}
use Rattle.words.specs.Tests.{pick, both_of, within_of}
use Rattle.decimal.specs.declared.Shape.{Shape}
use Rattle.decimal.specs.declared.Shape.TheVariants.{Whole, Fixed, Expo}
use Rattle.bad_byte.specs.declared.Column.{Column}
use Rattle.bad_byte.specs.declared.Column.TheVariants.{Front, Unit as Last, Point, Place, Letter, Sign}
use Rattle.bad_byte.specs.declared.Stage.{Stage}
use Rattle.bad_byte.specs.declared.Stage.TheVariants.{Blanks, Behind, Inked, Wrong}

-- the column of a number with d places that so many follow
abbrev pub point_column : ℕ → ℕ → Column
point_column d left = pick (ltb left d) Place (pick (eqb left d) Point Front)

-- the column of an exponent that so many follow
abbrev pub exponent_column : ℕ → Column
exponent_column left = pick (eqb left 3) Letter (pick (eqb left 2) Sign Place)

-- the column of a field of this shape that so many follow
abbrev pub column_of : Shape → ℕ → Column
column_of Whole left = pick (eqb left 0) Last Front
column_of (Fixed d) left = point_column d left
column_of (Expo d) left = pick (ltb left 4) (exponent_column left) (point_column d (left - 4))

-- there is a point, so that blanks may stand behind a sign
abbrev pub pointed? : Shape → Bool
pointed? Whole = false
pointed? (Fixed d) = true
pointed? (Expo d) = true

abbrev pub front? : Column → Bool
front? Front = true
front? Last = false
front? Point = false
front? Place = false
front? Letter = false
front? Sign = false

-- a number may begin there
abbrev pub early? : Column → Bool
early? Front = true
early? Last = true
early? Point = true
early? Place = false
early? Letter = false
early? Sign = false

-- the byte is a sign
abbrev pub sign_of : ℕ → Bool
sign_of c = pick (eqb c 43) true (eqb c 45)

-- the byte is what the column demands
abbrev pub fits_of : Column → ℕ → Bool
fits_of Front c = within_of 48 c 57
fits_of Last c = within_of 48 c 57
fits_of Point c = eqb c 46
fits_of Place c = within_of 48 c 57
fits_of Letter c = eqb c 69
fits_of Sign c = sign_of c

-- the byte behind blanks alone, behind a sign, behind more
abbrev pub from_blanks : Column → ℕ → Stage
from_blanks k c = pick (eqb c 32) Blanks (pick (both_of (early? k) (fits_of k c)) Inked (pick (both_of (front? k) (sign_of c)) Behind Wrong))

abbrev pub from_ink : Column → ℕ → Stage
from_ink k c = pick (fits_of k c) Inked Wrong

abbrev pub from_sign : Bool → Column → ℕ → Stage
from_sign gap k c = pick (both_of (both_of gap (front? k)) (eqb c 32)) Behind (from_ink k c)

-- what stood before the next column
abbrev pub next_of : Bool → Stage → Column → ℕ → Stage
next_of gap Blanks k c = from_blanks k c
next_of gap Behind k c = from_sign gap k c
next_of gap Inked k c = from_ink k c
next_of gap Wrong k c = Wrong

abbrev pub wrong? : Stage → Bool
wrong? Blanks = false
wrong? Behind = false
wrong? Inked = false
wrong? Wrong = true

-- the place of the first bad byte of what is left of a field, of what stood before; how many bytes there are where none is bad
unfoldable pub bad_from : Shape → Stage → List ℕ → ℕ
bad_from s st [] = 0
bad_from s st (c ∷ cs) =
    let t = next_of (pointed? s) st (column_of s (length cs)) c in
    pick (wrong? t) 0 (suc (bad_from s t cs))

-- of a whole field, as wide as there are bytes
unfoldable pub bad_in : Shape → List ℕ → ℕ
bad_in s bs = bad_from s Blanks bs
