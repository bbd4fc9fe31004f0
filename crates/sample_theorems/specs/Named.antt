-- A complex sample by the rules alone (document 02, No. 2): two patterns of four bytes, real then imaginary, high byte first, of a line's data pixels. No
-- turn, state, budget or refusal occurs here. Assumes nothing.
use Rattle.std.specs.Prelude.{ℕ, ◌+◌, ◌*◌, List}
use Rattle.words.specs.Words.{byte_at}

-- the pattern of the four bytes from a place on
abbrev pub pattern : List ℕ → ℕ → ℕ
pattern px at = 16777216 * byte_at px at + 65536 * byte_at px (at + 1) + 256 * byte_at px (at + 2) + byte_at px (at + 3)

-- the real part of sample j, and the imaginary part behind it
abbrev pub real : List ℕ → ℕ → ℕ
real px j = pattern px (8 * j)

abbrev pub imaginary : List ℕ → ℕ → ℕ
imaginary px j = pattern px (8 * j + 4)
