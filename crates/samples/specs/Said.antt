-- The answers of the sample reader and of the power in the words of document 01. Assumes nothing.
use Rattle.std.specs.Prelude.{[], ◌∷◌, pos, Ok, Err}
use Rattle.words.specs.Answer.{Answer, counted, patterned, powered}
use Rattle.lines.specs.Said.{unshown_as}
use Rattle.samples.specs.declared.Sample.TheVariants.{Count, Complex}
use Rattle.samples.specs.Samples.{Patterned, Sampled, Powered, bits_of}

-- what stands at a sample's place: a count; or two patterns, real and imaginary; else why none
abbrev pub patterned_as : Patterned → Answer
patterned_as (Ok (Count n)) = record { word = counted; numbers = pos n ∷ [] }
patterned_as (Ok (Complex re im)) = record { word = patterned; numbers = pos re ∷ pos im ∷ [] }
patterned_as (Err x) = unshown_as x

-- a sample: its floats by the patterns that they have
abbrev pub sampled_as : Sampled → Answer
sampled_as x = patterned_as (bits_of x)

-- a power: its pattern; else why none
abbrev pub powered_as : Powered → Answer
powered_as (Ok n) = record { word = powered; numbers = pos n ∷ [] }
powered_as (Err x) = unshown_as x
