-- What is written into bytes: a text from a place on, a number's digits, a number of four bytes. Assumes nothing.
use Rattle.std.specs.Prelude.{ℕ, zero, suc, ◌+◌, ◌/◌, ◌%◌, List, [], ◌∷◌, ◌++◌, ltb, length, take, drop}
use Rattle.words.specs.Tests.{pick}

-- the bytes with a text over what stood from a place on, and all others as they were
abbrev pub written : List ℕ → ℕ → List ℕ → List ℕ
written out at t = take at out ++ t ++ drop (at + length t) out

-- a number's decimal digits, at most so many, with no 0 in front of another digit
unfoldable pub numeral_of : ℕ → ℕ → List ℕ
numeral_of zero n = []
numeral_of (suc most) n = pick (ltb n 10) ((48 + n) ∷ []) (numeral_of most (n / 10) ++ ((48 + n % 10) ∷ []))

-- a number of 64 bits
abbrev pub numeral : ℕ → List ℕ
numeral n = numeral_of 20 n

-- a number of 32 bits as four bytes, high byte first; what lies above is lost
abbrev pub four_of : ℕ → List ℕ
four_of n = n / 256 / 256 / 256 % 256 ∷ n / 256 / 256 % 256 ∷ n / 256 % 256 ∷ n % 256 ∷ []
