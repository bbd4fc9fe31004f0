-- Worked numbers, as rows of one list: the patterns of two parts, and their power. By computation.
use Rattle.std.specs.Prelude.{ℕ, ◌≡◌, refl, List, [], ◌∷◌, map, Option, Some, None}
use Rattle.std.specs.Float.Ieee.{add, mul, of_bits, to_bits}
use Rattle.floats.specs.Floats.{finite_of, squares, all_finite, power_of}

-- two patterns, real and imaginary
pub record Parts : Type 0 where
  pub re : ℕ
  pub im : ℕ

abbrev parts : ℕ → ℕ → Parts
parts a b = record { re = a; im = b }

-- 3 and 4; a square that overflows; a NaN; an infinity; the least number, whose square is 0; and where a fused multiply-add would give 0x40843619
abbrev pub table : List Parts
table =
    parts 0x4040_0000 0x4080_0000
    ∷ parts 0x7f7f_ffff 0
    ∷ parts 0x7fc0_0001 0
    ∷ parts 0 0xff80_0000
    ∷ parts 1 0x8000_0000
    ∷ parts 0x3fbc_f924 0x3fb2_d54e
    ∷ []

-- what their powers are
abbrev pub said : List (Option ℕ)
said = Some 0x41c8_0000 ∷ None ∷ None ∷ None ∷ Some 0 ∷ Some 0x4084_3618 ∷ []

pub examples : map (λ x. power_of x.re x.im) table ≡ said
unfolding power_of all_finite squares finite_of add mul of_bits to_bits
examples = refl
