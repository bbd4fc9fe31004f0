-- The thirteen listed fields (document 01, "Listed fields"; 000, data set summary and map projection records) and the field reader over them. Assumes nothing.
use Rattle.std.specs.Prelude.{ℕ, ◌-◌, List, [], ◌∷◌, get_or}
use Rattle.words.specs.Tests.{pick, within_of}
use Rattle.words.specs.Words.{place_of}
use Rattle.decimal.specs.declared.Form.{Form}
use Rattle.decimal.specs.declared.Form.TheVariants.{I4, I16, F8d3, F16d7, E20d13}
use Rattle.fields.specs.Field.{refuse, field_at}
use Rattle.fields.specs.declared.Field.{Field}
use Rattle.fields.specs.declared.Listed.{Listed}

-- a row: the first byte, counted from 1, and the form
abbrev pub row : ℕ → Form → Listed
row first k = record { first = first; form = k }

-- 1 to 10 stand in the summary record, 11 to 13 in the map record
abbrev pub table : List Listed
table =
    row 477 F8d3
    ∷ row 711 F16d7
    ∷ row 743 F16d7
    ∷ row 935 F16d7
    ∷ row 1887 E20d13
    ∷ row 1907 E20d13
    ∷ row 1927 E20d13
    ∷ row 1947 E20d13
    ∷ row 1967 E20d13
    ∷ row 1987 E20d13
    ∷ row 61 I16
    ∷ row 77 I16
    ∷ row 93 F16d7
    ∷ []

-- the row at a place of the table
unfoldable pub listed : ℕ → Listed
listed i = get_or table i (row 0 I4)

-- the field reader: 14 where there is no such listed field, else what stands at its place
unfoldable pub listed_field : List ℕ → ℕ → Field
listed_field b n =
    pick (within_of 1 n 13) (field_at b (place_of (listed (n - 1)).first) (listed (n - 1)).form) (refuse 14 0)
