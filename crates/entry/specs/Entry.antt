-- The layout of an entry (document 02, No. 1): one byte of kind, then a body. Assumes nothing.
use Rattle.std.specs.Prelude.{ℕ, ◌+◌, ◌≡◌, List, [], ◌∷◌, ◌++◌, Bool, ltb, length}
use Rattle.words.specs.Words.{byte_at}

-- an entry of that kind, with a body of that many bytes
pub record Entry (k body : ℕ) (r : List ℕ) : Type 0 where
  pub size : length r ≡ 1 + body
  pub kind : byte_at r 0 ≡ k

-- entries end to end
abbrev pub concat : List (List ℕ) → List ℕ
concat [] = []
concat (r ∷ rs) = r ++ concat rs

-- the kind of the entry that begins these bytes; 0 where there are none
abbrev pub kind_of : List ℕ → ℕ
kind_of r = byte_at r 0

-- it is whole: its kind and a body of that many bytes
abbrev pub whole_of : ℕ → List ℕ → Bool
whole_of body r = ltb body (length r)
