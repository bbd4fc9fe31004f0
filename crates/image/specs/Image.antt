-- The tests of an image's records, in document 01's order and with its byte numbers (from 1): fixed texts by position, then number fields by
-- position, then agreements; the plan's numbers that its descriptor names; and a line's tests ("First records and what they promise"; 000, 002). Assumes
-- nothing.
use Rattle.std.specs.Prelude.{ℕ, ◌+◌, ◌*◌, List, [], ◌∷◌, ◌++◌, map, eqb, leb, get_or, Result}
use Rattle.words.specs.Tests.{pick}
use Rattle.words.specs.Words.{place_of, four_at}
use Rattle.words.specs.declared.Refusal.{Refusal}
use Rattle.decimal.specs.declared.Form.TheVariants.{I4, I6, I8}
use Rattle.decimal.specs.declared.Number.{Number as Value}
use Rattle.plan.specs.Tables.{sort_of}
use Rattle.verdicts.specs.Tests.{Test, test, text_at, text_test, first_fault, named_by, needed_of}
use Rattle.verdicts.specs.Numbers.{Number, number, at, last_of, number_at, numbers_tests, first_text}
use Rattle.image.specs.declared.Described.{Described}
use Rattle.image.specs.declared.Fills.{Fills}

-- the text at 429 decides the sort: complex where it is that sort's text, and else counts, whose text it must then be
abbrev pub sort_in : List ℕ → ℕ
sort_in r = pick (text_at r (place_of 429) (sort_of 1).text) 1 0

-- the number fields of the descriptor, by position, by the sort
abbrev pub image_numbers : ℕ → List Number
image_numbers sort =
    number 181 I6 1 999999
    ∷ number 187 I6 1 999999
    ∷ number 225 I4 (sort_of sort).group (sort_of sort).group
    ∷ number 233 I4 1 1
    ∷ number 237 I8 1 99999999
    ∷ number 249 I8 1 99999999
    ∷ number 281 I8 1 99999999
    ∷ number 289 I4 0 9999
    ∷ []

unfoldable pub image_row : ℕ → ℕ → Number
image_row sort i = get_or (image_numbers sort) i (number 0 I4 0 0)

-- both line counts equal; d is a group for each pixel; what goes before, the data and the suffix fit L
unfoldable pub agree_tests : ℕ → ℕ → ℕ → ℕ → ℕ → ℕ → ℕ → List Test
agree_tests sort n l lines w d s =
    test (eqb n lines) 8 0
    ∷ test (eqb d ((sort_of sort).group * w)) 8 0
    ∷ test (leb ((sort_of sort).ahead + d + s) l) 8 0
    ∷ []

-- the same, of the numbers that the descriptor says
abbrev pub agreements : List ℕ → List Test
agreements r =
    agree_tests (sort_in r) (number_at r 181 I6) (number_at r 187 I6) (number_at r 237 I8) (number_at r 249 I8) (number_at r 281 I8) (number_at r 289 I4)

-- the fixed texts: every first record's, and the sort's at 429
abbrev pub image_texts : List ℕ → List Test
image_texts r = first_text r ∷ text_test r 429 (sort_of (sort_in r)).text ∷ []

unfoldable pub image_tests : List ℕ → List Test
image_tests r = image_texts r ++ (numbers_tests r (image_numbers (sort_in r)) ++ agreements r)

-- what is found in a descriptor: the plan's numbers that it names, or its first fault
abbrev pub described_in : List ℕ → Described
described_in r =
    record {
      n = number_at r 181 I6;
      l = number_at r 187 I6;
      w = number_at r 249 I8;
      d = number_at r 281 I8;
      s = number_at r 289 I4;
      sort = sort_in r;
    }

unfoldable pub described_of : List ℕ → Result Described Refusal
described_of r = named_by (first_fault (image_tests r)) (described_in r)

-- the number fields as the code reads them: what they say, or the first fault
abbrev pub number_field : List ℕ → Number → Result Value Refusal
number_field r x = needed_of (at r x.byte x.form) (place_of x.byte) (last_of x.byte x.form) x.least x.most

abbrev pub row_number : List ℕ → Number → ℕ
row_number r x = number_at r x.byte x.form

unfoldable pub numbers_of : ℕ → List ℕ → Result (List ℕ) Refusal
numbers_of sort r = named_by (first_fault (numbers_tests r (image_numbers sort))) (map (row_number r) (image_numbers sort))

-- a line's left fill, data and right fill counts
abbrev pub fills_of : List ℕ → Fills
fills_of r = record { left = four_at r (place_of 21); «data» = four_at r (place_of 25); right = four_at r (place_of 29) }

-- a line of an image of w pixels: line number, index 1, and fills whose ordinary sum is w
unfoldable pub line_tests : ℕ → ℕ → List ℕ → List Test
line_tests w k r =
    test (eqb (four_at r (place_of 13)) k) 10 (place_of 13)
    ∷ test (eqb (four_at r (place_of 17)) 1) 10 (place_of 17)
    ∷ test (eqb (four_at r (place_of 21) + four_at r (place_of 25) + four_at r (place_of 29)) w) 10 (place_of 21)
    ∷ []

-- the records of an image of w pixels; run 0 is the first record
unfoldable pub image_record : ℕ → ℕ → ℕ → List ℕ → List Test
image_record run w k r = pick (eqb run 0) (image_tests r) (line_tests w k r)
