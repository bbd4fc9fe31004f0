-- A text as the bytes that spell it, for worked examples. Assumes nothing.
use Rattle.std.specs.Prelude.{ℕ, List, [], ◌∷◌}
use Prim.Native.String.{String, [] as «end», ◌∷◌ as ◌then◌}
use Prim.Native.Char.{code}

-- the bytes of a text in quotes
abbrev pub bytes : String → List ℕ
bytes «end» = []
bytes (◌then◌ c s) = code c ∷ bytes s
