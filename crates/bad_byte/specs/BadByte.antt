-- The first bad byte of a badly written field (document 02, No. 5), in the words of the grammar alone, over shape and width. It says nothing of how the
-- byte is found: `proofs/Named` shows that `place` finds it. Assumes nothing.
use Rattle.std.specs.Prelude.{ℕ, ◌+◌, ◌≡◌, List, ◌++◌, true, length, take}
use Rattle.decimal.specs.Forms.{width_of, shape_of}
use Rattle.decimal.specs.Grammar.{Good, WellWritten}
use Rattle.decimal.specs.declared.Form.{Form}
use Rattle.decimal.specs.declared.Shape.{Shape}
use Rattle.decimal.specs.Written.{Written, blank}

-- some well-written field of that shape and width begins with these bytes. All blank is well written
abbrev pub Begins : Shape → ℕ → List ℕ → Type 0
Begins s n bs = (more : List ℕ) × (r : Written) × (length (bs ++ more) ≡ n) × Good true s (bs ++ more) r

-- the byte at place i is the first that no well-written field with the same earlier bytes could have there
pub record BadAt (s : Shape) (n : ℕ) (bs : List ℕ) (i : ℕ) : Type 0 where
  pub before : Begins s n (take i bs)
  pub none : Begins s n (take (i + 1) bs) → ⊥

-- the place in a field that refusal 6 points at: its first bad byte; where a number is needed and it is all blank, its last byte
pub data PointsAt (k : Form) (bs : List ℕ) (i : ℕ) : Type 0 where
  bad : BadAt (shape_of k) (width_of k) bs i → PointsAt k bs i
  empty : WellWritten k bs blank → i + 1 ≡ width_of k → PointsAt k bs i
