-- Single precision and the power of a complex sample (request No. 2), in the words of `lib.Ieee`. Assumes nothing.
use Rattle.std.specs.Prelude.{ℕ, Bool, true, false, Float, Option, Some, None}
use Rattle.std.specs.Float.{nan, inf, fin, binary32}
use Rattle.std.specs.Float.Ieee.{add, mul, of_bits, to_bits}
use Rattle.words.specs.Tests.{pick, both_of}

-- the float of a pattern; every NaN's pattern gives the one NaN
abbrev pub float_of : ℕ → Float
float_of n = of_bits binary32 n

-- neither an infinity nor a NaN
unfoldable pub finite_of : Float → Bool
finite_of nan = false
finite_of (inf s) = false
finite_of (fin s m e) = true

-- real times real, imaginary times imaginary, then the sum, each rounded once in single precision
unfoldable pub squares : Float → Float → Float
squares re im = add binary32 (mul binary32 re re) (mul binary32 im im)

-- both parts are finite, and the power too
unfoldable pub all_finite : Float → Float → Bool
all_finite re im = both_of (finite_of re) (both_of (finite_of im) (finite_of (squares re im)))

-- the power's pattern, where a part or the power is not finite none
unfoldable pub power_of : ℕ → ℕ → Option ℕ
power_of re im = pick (all_finite (float_of re) (float_of im)) (Some (to_bits binary32 (squares (float_of re) (float_of im)))) None
