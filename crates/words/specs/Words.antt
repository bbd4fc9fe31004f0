-- Numbers of several bytes, most significant byte first (002), and the crossing from document 01's byte numbers to places. Assumes nothing.
use Rattle.std.specs.Prelude.{ℕ, ◌+◌, ◌-◌, ◌*◌, List, get_or}

-- the byte at a place; 0 past the end
abbrev pub byte_at : List ℕ → ℕ → ℕ
byte_at b at = get_or b at 0

-- the two bytes from a place on, high byte first
unfoldable pub two_at : List ℕ → ℕ → ℕ
two_at b at = byte_at b at * 256 + byte_at b (at + 1)

-- the four bytes from a place on, high byte first
unfoldable pub four_at : List ℕ → ℕ → ℕ
four_at b at = two_at b at * 65536 + two_at b (at + 2)

-- the place, counted from 0, of a byte that document 01 counts from 1
unfoldable pub place_of : ℕ → ℕ
place_of byte = byte - 1
