-- The tests of a volume directory's records, in document 01's order and with its byte numbers (from 1), and the pointer count that its descriptor
-- names ("First records and what they promise"; 000). Assumes nothing.
use Rattle.std.specs.Prelude.{ℕ, List, [], ◌∷◌, eqb, Result}
use Rattle.words.specs.Tests.{pick}
use Rattle.words.specs.declared.Refusal.{Refusal}
use Rattle.decimal.specs.Text.{bytes}
use Rattle.decimal.specs.declared.Form.TheVariants.{I4, I8}
use Rattle.verdicts.specs.Tests.{Test, first_fault, named_by, text_test}
use Rattle.verdicts.specs.Numbers.{Number, number, number_at, numbers_tests, first_text}

-- the descriptor's pointer count: 3 to 6
abbrev pub volume_numbers : List Number
volume_numbers = number 161 I4 3 6 ∷ []

unfoldable pub volume_tests : List ℕ → List Test
volume_tests r = first_text r ∷ numbers_tests r volume_numbers

-- the class of pointer k of m: `SARL` first, `SART` last, `IMOP` between
unfoldable pub class_text : ℕ → ℕ → List ℕ
class_text m k = pick (eqb k 1) (bytes "SARL") (pick (eqb k m) (bytes "SART") (bytes "IMOP"))

-- a pointer's record count, and its first record length, exactly 720
abbrev pub pointer_numbers : List Number
pointer_numbers = number 101 I8 1 99999999 ∷ number 109 I8 720 720 ∷ []

unfoldable pub pointer_tests : ℕ → ℕ → List ℕ → List Test
pointer_tests m k r = text_test r 65 (class_text m k) ∷ numbers_tests r pointer_numbers

-- the records of a directory with m pointers; run 0 is the first record. A text record has no rule beyond the header
unfoldable pub volume_record : ℕ → ℕ → ℕ → List ℕ → List Test
volume_record run m k r = pick (eqb run 0) (volume_tests r) (pick (eqb run 1) (pointer_tests m k r) [])

-- what is found in a descriptor: the pointer count that it names, or its first fault
unfoldable pub described_of : List ℕ → Result ℕ Refusal
described_of r = named_by (first_fault (volume_tests r)) (number_at r 161 I4)
