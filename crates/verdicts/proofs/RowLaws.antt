-- The number fields of a table, one after the other as the code reads them: what is left to judge behind each, by one step of the list.
use Prim.Native.Nat.{ℕ}
use mathlib.Core.Path.{◌≡◌, refl, sym, ap, ◌∙◌}
use mathlib.Core.List.{List, [], ◌∷◌}
use Rattle.std.specs.Prelude.{Result, Ok, Err}
use Rattle.words.specs.Words.{place_of}
use Rattle.words.specs.declared.Refusal.{Refusal}
use Rattle.decimal.specs.declared.Number.{Number as Value}
use Rattle.verdicts.specs.Tests.{first_fault, each, verdict_of, needed_of, whole_of}
use Rattle.verdicts.specs.Numbers.{Number, at, last_of, number_at, row_tests, numbers_tests}
use Rattle.verdicts.proofs.TestLaws.{found, passed, heads}
use Rattle.verdicts.proofs.FieldLaws.{at_unnamed, needed_fault, needed_number}

-- the field of row x, as the code reads it
abbrev pub needed : List ℕ → Number → Result Value Refusal
needed r x = needed_of (at r x.byte x.form) (place_of x.byte) (last_of x.byte x.form) x.least x.most

module _ (r : List ℕ) (x : Number) where
  row_fault : first_fault (row_tests r x) ≡ verdict_of (needed r x)
  row_fault = sym (needed_fault (place_of x.byte) (last_of x.byte x.form) x.least x.most (at r x.byte x.form) (at_unnamed r x.byte x.form))

  -- its refusal is the fault of its tests, and a number has none
  pub row_found : {y : Refusal} → needed r x ≡ Err y → first_fault (row_tests r x) ≡ Err y
  row_found q = row_fault ∙ ap verdict_of q

  pub row_passed : {m : Value} → needed r x ≡ Ok m → first_fault (row_tests r x) ≡ Ok tt
  row_passed q = row_fault ∙ ap verdict_of q

  -- a refusal is the fault of the rows from x on
  pub numbers_found : (xs : List Number) {y : Refusal} → needed r x ≡ Err y → first_fault (numbers_tests r (x ∷ xs)) ≡ Err y
  unfolding numbers_tests
  numbers_found xs q = found (row_tests r x) (each (row_tests r) xs) (row_found q)

  -- behind a number what is left is judged next
  pub numbers_passed : (xs : List Number) {m : Value} → needed r x ≡ Ok m → first_fault (numbers_tests r (x ∷ xs)) ≡ first_fault (numbers_tests r xs)
  unfolding numbers_tests
  numbers_passed xs q = passed (row_tests r x) (each (row_tests r) xs) (row_passed q)

  -- it says the row's number
  pub value_is : {m : Value} → needed r x ≡ Ok m → whole_of m.units ≡ number_at r x.byte x.form
  value_is q = needed_number (place_of x.byte) (last_of x.byte x.form) x.least x.most (at r x.byte x.form) q

-- no row is left
pub numbers_none : (r : List ℕ) → first_fault (numbers_tests r []) ≡ Ok tt
unfolding numbers_tests first_fault
numbers_none r = refl

-- a text, and number fields behind it
pub ruleset steps = (heads, numbers_found, numbers_passed, numbers_none, value_is)
