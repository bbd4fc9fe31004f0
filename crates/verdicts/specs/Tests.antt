-- A body's rules as a list of tests in document 01's order: the first that fails is the refusal. Assumes nothing.
use Rattle.std.specs.Prelude.{ℕ, ◌+◌, List, [], ◌∷◌, ◌++◌, Bool, true, false, eqb, ℤ, pos, negsuc, Result, Ok, Err}
use Rattle.words.specs.Tests.{pick, both_of, within_of}
use Rattle.words.specs.Words.{byte_at, place_of}
use Rattle.words.specs.Answer.{refusal_at}
use Rattle.words.specs.declared.Refusal.{Refusal}
use Rattle.decimal.specs.declared.Number.{Number}
use Rattle.fields.specs.declared.Field.{Field}
use Rattle.fields.specs.declared.Field.TheVariants.{Value, Blank, Refused}

-- what was found in a record: nothing wrong, or the first fault's number and its place in the record
abbrev pub Verdict : Type 0
Verdict = Result Unit Refusal

-- a test: whether it holds, and the refusal's number and place in the record where it does not
pub record Test : Type 0 where
  pub holds : Bool
  pub number : ℕ
  pub place : ℕ

abbrev pub test : Bool → ℕ → ℕ → Test
test b n at = record { holds = b; number = n; place = at }

-- the first test that fails
unfoldable pub first_fault : List Test → Verdict
first_fault [] = Ok tt
first_fault (t ∷ ts) = pick t.holds (first_fault ts) (Err (refusal_at t.number t.place))

-- whether every test holds
unfoldable pub all_hold : List Test → Bool
all_hold [] = true
all_hold (t ∷ ts) = both_of t.holds (all_hold ts)

-- what is judged next where nothing was found
abbrev pub and_then : Verdict → Verdict → Verdict
and_then (Ok _) v = v
and_then (Err x) v = Err x

-- what a record names where nothing was found in it; else the first fault
abbrev pub named_by : {A : Type 0} → Verdict → A → Result A Refusal
named_by (Ok _) a = Ok a
named_by (Err x) a = Err x

-- the tests of each of several things, one thing after the other
abbrev pub each : {A : Type 0} → (A → List Test) → List A → List Test
each g [] = []
each g (x ∷ xs) = g x ++ each g xs

-- ---- texts: 8 at the text's first byte

-- the bytes from a place on are these
unfoldable pub text_at : List ℕ → ℕ → List ℕ → Bool
text_at r at [] = true
text_at r at (c ∷ cs) = both_of (eqb (byte_at r at) c) (text_at r (at + 1) cs)

abbrev pub text_test : List ℕ → ℕ → List ℕ → Test
text_test r byte t = test (text_at r (place_of byte) t) 8 (place_of byte)

-- ---- number fields: form (6, at the first bad byte, or the last byte of a blank field where a number is needed), then range (7, at the first byte)

abbrev pub value? : Field → Bool
value? (Value v e) = true
value? Blank = false
value? (Refused x) = false

-- a value, or blank
abbrev pub readable? : Field → Bool
readable? (Value v e) = true
readable? Blank = true
readable? (Refused x) = false

-- the refusal of a field that is no value: its own, or 6 where it is blank and a number is needed
abbrev pub unread_number : Field → ℕ
unread_number (Value v e) = 6
unread_number Blank = 6
unread_number (Refused x) = x.number

-- its place: its own, or that one where it is blank
abbrev pub unread_place : ℕ → Field → ℕ
unread_place at (Value v e) = at
unread_place at Blank = at
unread_place at (Refused x) = x.place

-- a signed number lies in a range
abbrev pub whole_in : ℕ → ℤ → ℕ → Bool
whole_in lo (pos n) hi = within_of lo n hi
whole_in lo (negsuc n) hi = false

abbrev pub value_in : ℕ → Field → ℕ → Bool
value_in lo (Value v e) hi = whole_in lo v hi
value_in lo Blank hi = false
value_in lo (Refused x) hi = false

-- what a count says: a blank count is 0
abbrev pub count_in : ℕ → Field → ℕ → Bool
count_in lo (Value v e) hi = whole_in lo v hi
count_in lo Blank hi = within_of lo 0 hi
count_in lo (Refused x) hi = false

-- the number that a field says; 0 where it says none
abbrev pub whole_of : ℤ → ℕ
whole_of (pos n) = n
whole_of (negsuc n) = 0

abbrev pub number_of : Field → ℕ
number_of (Value v e) = whole_of v
number_of Blank = 0
number_of (Refused x) = 0

-- a field, by its first byte and its last, that must be a number in a range
abbrev pub number_tests : Field → ℕ → ℕ → ℕ → ℕ → List Test
number_tests f at last lo hi = test (value? f) (unread_number f) (unread_place last f) ∷ test (value_in lo f hi) 7 at ∷ []

-- a count, which may be blank
abbrev pub count_tests : Field → ℕ → ℕ → ℕ → List Test
count_tests f at lo hi = test (readable? f) (unread_number f) (unread_place at f) ∷ test (count_in lo f hi) 7 at ∷ []

-- a listed field: a value or blank
abbrev pub readable_test : Field → ℕ → Test
readable_test f at = test (readable? f) (unread_number f) (unread_place at f)

-- ---- the same, one field after the other: what the code hands on of a field

-- the verdict on a field: its refusal is the fault
abbrev pub fault_of : Field → Verdict
fault_of (Value v e) = Ok tt
fault_of Blank = Ok tt
fault_of (Refused x) = Err x

-- the verdict on a number that was read: its refusal is the fault
abbrev pub verdict_of : {A : Type 0} → Result A Refusal → Verdict
verdict_of (Ok a) = Ok tt
verdict_of (Err x) = Err x

-- a number in a range, or 7
abbrev pub in_range : ℤ → ℤ → ℕ → ℕ → ℕ → Result Number Refusal
in_range v e at lo hi = pick (whole_in lo v hi) (Ok (record { units = v; exponent = e })) (Err (refusal_at 7 at))

-- a field, by its first byte and its last, that must be a number in a range: the number; else its own refusal, 6 where it is blank, 7 outside the range
abbrev pub needed_of : Field → ℕ → ℕ → ℕ → ℕ → Result Number Refusal
needed_of (Value v e) at last lo hi = in_range v e at lo hi
needed_of Blank at last lo hi = Err (refusal_at 6 last)
needed_of (Refused x) at last lo hi = Err x

-- a count, whose blank field says 0
abbrev pub counted_of : Field → ℕ → ℕ → ℕ → Result Number Refusal
counted_of (Value v e) at lo hi = in_range v e at lo hi
counted_of Blank at lo hi = in_range (pos 0) (pos 0) at lo hi
counted_of (Refused x) at lo hi = Err x
