-- Number fields by document 01's byte numbers (from 1): a field and the number that it says, the tests of a table's rows, and the text that every
-- first record has ("First records and what they promise"; 000). Assumes nothing.
use Rattle.std.specs.Prelude.{ℕ, ◌+◌, ◌-◌, List}
use Rattle.words.specs.Words.{place_of}
use Rattle.decimal.specs.Text.{bytes}
use Rattle.decimal.specs.Forms.{width_of}
use Rattle.decimal.specs.declared.Form.{Form}
use Rattle.fields.specs.Field.{field_at}
use Rattle.fields.specs.declared.Field.{Field}
use Rattle.verdicts.specs.Tests.{Test, each, text_test, number_tests, number_of}

-- a field of a record, by its first byte and form
abbrev pub at : List ℕ → ℕ → Form → Field
at r byte k = field_at r (place_of byte) k

-- the place of its last byte
abbrev pub last_of : ℕ → Form → ℕ
last_of byte k = place_of byte + (width_of k - 1)

-- the number that it says; 0 where it says none
abbrev pub number_at : List ℕ → ℕ → Form → ℕ
number_at r byte k = number_of (at r byte k)

-- a number field that must be a number in a range: first byte, form, least, most
pub record Number : Type 0 where
  pub byte : ℕ
  pub form : Form
  pub least : ℕ
  pub most : ℕ

abbrev pub number : ℕ → Form → ℕ → ℕ → Number
number byte k lo hi = record { byte = byte; form = k; least = lo; most = hi }

-- its tests: form, then range
abbrev pub row_tests : List ℕ → Number → List Test
row_tests r x = number_tests (at r x.byte x.form) (place_of x.byte) (last_of x.byte x.form) x.least x.most

-- the tests of several, by position
unfoldable pub numbers_tests : List ℕ → List Number → List Test
numbers_tests r xs = each (row_tests r) xs

-- every file's first record has `Ab` at 13-14
abbrev pub first_text : List ℕ → Test
first_text r = text_test r 13 (bytes "A ")
