-- Document 01's table of examples so far as it concerns numbers of several bytes: P11, as rows of one list.
use Rattle.std.specs.Prelude.{ℕ, ◌≡◌, refl, List, [], ◌∷◌, map}
use Rattle.words.specs.Words.{two_at}

-- P11: the bytes 02 01
abbrev pub table : List (List ℕ)
table = (2 ∷ 1 ∷ []) ∷ []

-- what document 01 says that they say
abbrev pub said : List ℕ
said = 513 ∷ []

pub examples : map (λ b. two_at b 0) table ≡ said
unfolding two_at
examples = refl
