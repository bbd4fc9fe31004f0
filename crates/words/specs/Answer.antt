-- The words in which document 01 gives an answer, and the numbers that stand with each. For every answer that is an enum a definition
-- beside it says which of these it is; the promises are stated in these words. Assumes nothing.
use Rattle.std.specs.Prelude.{ℕ, List, [], ◌∷◌, ℤ, pos}
use Rattle.words.specs.declared.Refusal.{Refusal}

-- which answer it is; the last three are request No. 2's: a sample that is a count, a complex sample's two patterns, a power's pattern
pub data Word : Type 0 where
  refused waiting paused complete begun value blank badly shown copied agrees built card : Word
  counted patterned powered : Word

-- an answer: which it is, and its numbers in the order of document 01
pub record Answer : Type 0 where
  pub word : Word
  pub numbers : List ℤ

-- a refusal's numbers: document 01's number, the record's ordinal, the place
abbrev pub refused_as : Refusal → Answer
refused_as r = record { word = refused; numbers = pos r.number ∷ pos r.«record» ∷ pos r.place ∷ [] }

-- a refusal that names no record: ordinal 0
abbrev pub refusal_at : ℕ → ℕ → Refusal
refusal_at n at = record { number = n; «record» = 0; place = at }

-- a refusal that names neither a record nor a place in it
abbrev pub bare_refusal : ℕ → Refusal
bare_refusal n = refusal_at n 0

-- an answer that has no numbers
abbrev pub bare : Word → Answer
bare w = record { word = w; numbers = [] }

-- a written value: a signed whole number of units in the last written place, and its exponent
abbrev pub valued : ℤ → ℤ → Answer
valued m e = record { word = value; numbers = m ∷ e ∷ [] }
