-- What a call on a leader file answers and leaves behind, for arrays of any length: value v and answer a. Assumes nothing.
use Rattle.std.specs.Prelude.{ℕ, List, ◌∷◌, Bool, leb, ℤ, length, drop}
use Rattle.words.specs.Tests.{pick, both_of}
use Rattle.words.specs.Answer.{Answer, bare, refused_as, value, blank}
use Rattle.fields.specs.Listed.{listed_field}
use Rattle.fields.specs.declared.Field.{Field}
use Rattle.fields.specs.declared.Field.TheVariants.{Value, Blank, Refused}
use Rattle.c_answer.specs.Room.{fits, behind, said}

-- a field's answer: a value's two numbers go to the value array
abbrev pub field_said : Field → Answer
field_said (Value m e) = bare value
field_said Blank = bare blank
field_said (Refused r) = refused_as r

-- a value and an answer array have room
abbrev pub value_room : List ℤ → List ℕ → Bool
value_room v answer = both_of (leb 2 (length v)) (fits 5 answer)

-- the value array, which has room, behind what a field says: number and exponent of a value; all stay otherwise
abbrev pub value_by : Field → List ℤ → List ℤ
value_by (Value m e) v = m ∷ e ∷ drop 2 v
value_by Blank v = v
value_by (Refused r) v = v

-- the value array behind the call
abbrev pub field_value : ℕ → List ℕ → List ℤ → List ℕ → List ℤ
field_value number bytes v a = pick (value_room v a) (value_by (listed_field bytes number) v) v

-- the answer array behind the call
abbrev pub field_answer : ℕ → List ℕ → List ℤ → List ℕ → List ℕ
field_answer number bytes v a = behind (value_room v a) (said (field_said (listed_field bytes number)) 0) a
