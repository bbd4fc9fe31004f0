-- How a row is printed (document 01, "Lines, rows, sets"): its words and numbers, and one line feed. Assumes nothing.
use Rattle.std.specs.Prelude.{ℕ, List, [], ◌∷◌, ◌++◌}
use Rattle.decimal.specs.Text.{bytes}
use Rattle.writing.specs.Writing.{numeral}
use Rattle.rows.specs.declared.Row.{Row}
use Rattle.rows.specs.declared.Row.TheVariants.{Image, Line, TooLong, Complete, Refused}

-- a text, then a word and a number
abbrev pub with : List ℕ → List ℕ → ℕ → List ℕ
with t word n = t ++ (word ++ numeral n)

-- the whole row
unfoldable pub text_of : Row → List ℕ
text_of (Image n w) = with (with [] (bytes "IMAGE ") n) (bytes " LINES ") w ++ (bytes " PIXELS" ++ (10 ∷ []))
text_of (Line k left data' right) = with (with (with (with [] [] k) (bytes " ") left) (bytes " ") data') (bytes " ") right ++ (10 ∷ [])
text_of TooLong = bytes "RECORD TOO LONG" ++ (10 ∷ [])
text_of (Complete r b) = with (with [] (bytes "COMPLETE ") r) (bytes " RECORDS ") b ++ (bytes " BYTES" ++ (10 ∷ []))
text_of (Refused x) =
    with (with (with [] (bytes "REFUSED ") x.number) (bytes " RECORD ") x.«record») (bytes " AT ") x.place ++ (10 ∷ [])
