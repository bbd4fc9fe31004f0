-- One sample of a line (request No. 2), asked of what the line view shows: what stands at its place, its floats, its power. The view is a value
-- here, so that every view may stand for it; a byte past the end of the bytes counts as 0. Assumes nothing.
use Rattle.std.specs.Prelude.{ℕ, ◌+◌, ◌*◌, Bool, true, not, List, ltb, eqb, Float, Option, ok_or, Result, Ok, Err}
use Rattle.std.specs.Float.{binary32}
use Rattle.std.specs.Float.Ieee.{to_bits, nan_bits}
use Rattle.words.specs.Tests.{pick, both_of}
use Rattle.words.specs.Words.{two_at, four_at}
use Rattle.words.specs.Answer.{bare_refusal}
use Rattle.floats.specs.Floats.{float_of, power_of}
use Rattle.lines.specs.View.{View}
use Rattle.lines.specs.declared.Unshown.{Unshown}
use Rattle.lines.specs.declared.Unshown.TheVariants.{Refused}
use Rattle.samples.specs.declared.Sample.{Sample}
use Rattle.samples.specs.declared.Sample.TheVariants.{Count, Complex}
use Rattle.samples.specs.declared.Pattern.{Pattern}

-- what stands at a sample's place, its parts by their patterns; or a wait or a refusal
abbrev pub Patterned : Type 0
Patterned = Result (Sample ℕ) Unshown

-- what the sample reader answers: the parts are floats
abbrev pub Sampled : Type 0
Sampled = Result (Sample Float) Unshown

-- what is said of a sample's power: its pattern
abbrev pub Powered : Type 0
Powered = Result ℕ Unshown

-- the sorts by number: 1 is complex, 0 is counts
abbrev pub is_complex : ℕ → Bool
is_complex sort = eqb sort 1

-- bytes a sample
abbrev pub group_of : ℕ → ℕ
group_of sort = pick (is_complex sort) 8 2

-- the place of sample i, from 0, of those that start there
abbrev pub place_in : ℕ → ℕ → ℕ → ℕ
place_in start sort i = start + group_of sort * i

-- a place, or the end of the bytes where it lies behind them
abbrev pub clipped : ℕ → ℕ → ℕ
clipped len at = pick (ltb at len) at len

-- real, then imaginary: four bytes each, high byte first
abbrev pub pattern_at : List ℕ → ℕ → Pattern
pattern_at bs at = record { re = four_at bs at; im = four_at bs (at + 4) }

-- two patterns, or a whole count of two bytes, high byte first
abbrev pub stands_at : ℕ → List ℕ → ℕ → Sample ℕ
stands_at sort bs at = pick (is_complex sort) (Complex (pattern_at bs at).re (pattern_at bs at).im) (Count (two_at bs at))

-- what stands at sample i of what the view shows, bits kept; 36 outside the line's data pixels
abbrev pub patterned_by : View → ℕ → List ℕ → ℕ → Patterned
patterned_by (Ok x) sort bs i = pick (ltb i x.count) (Ok (stands_at sort bs (place_in x.start sort i))) (Err (Refused (bare_refusal 36)))
patterned_by (Err x) sort bs i = Err x

-- a count as it is, and two patterns as two floats
abbrev pub floats : Sample ℕ → Sample Float
floats (Count n) = Count n
floats (Complex re im) = Complex (float_of re) (float_of im)

abbrev pub floated : Patterned → Sampled
floated (Ok x) = Ok (floats x)
floated (Err x) = Err x

-- sample i of what the view shows
unfoldable pub sampled_by : View → ℕ → List ℕ → ℕ → Sampled
sampled_by v sort bs i = floated (patterned_by v sort bs i)

-- 24, last: a part or the power is not finite
abbrev pub on_power : Option ℕ → Powered
on_power x = ok_or x (Refused (bare_refusal 24))

-- the power of a complex sample that stands there
abbrev pub power_at : List ℕ → ℕ → Powered
power_at bs at = on_power (power_of (four_at bs at) (four_at bs (at + 4)))

-- the power of sample i of what the view shows: 23 for counts, then 36, then 24
abbrev pub powered_by : View → ℕ → List ℕ → ℕ → Powered
powered_by (Ok x) sort bs i =
    pick (is_complex sort) (pick (ltb i x.count) (power_at bs (place_in x.start sort i)) (Err (Refused (bare_refusal 36)))) (Err (Refused (bare_refusal 23)))
powered_by (Err x) sort bs i = Err x

-- the patterns that a sample's floats have, the way back from `floated`; it says nothing of a NaN's
abbrev pub bits_of : Sampled → Patterned
bits_of (Ok (Count n)) = Ok (Count n)
bits_of (Ok (Complex x y)) = Ok (Complex (to_bits binary32 x) (to_bits binary32 y))
bits_of (Err x) = Err x

-- neither part is a NaN's pattern
abbrev pub no_nan : Patterned → Bool
no_nan (Ok (Count n)) = true
no_nan (Ok (Complex re im)) = both_of (not (nan_bits binary32 re)) (not (nan_bits binary32 im))
no_nan (Err x) = true
