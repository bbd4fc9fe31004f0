-- A rule of a table, shown at all of its rows by one test that antt computes over the whole table.
use Prim.Native.Nat.{ℕ, zero, suc, ◌<◌}
use mathlib.Core.Path.{◌≡◌}
use mathlib.Core.List.{List, [], ◌∷◌}
use mathlib.Core.Bool.{Bool, true}
use native.Mathlib.Omega.{arith}
use lib.ListN.{length, get_or}
use Rattle.words.specs.Tests.{both_of}
use Rattle.words.proofs.Laws.{both_l, both_r}

-- the test holds of each row
abbrev pub every : {A : Type 0} → (A → Bool) → List A → Bool
every f [] = true
every f (x ∷ xs) = both_of (f x) (every f xs)

pub every_at : {A : Type 0} (f : A → Bool) (xs : List A) (d : A) → every f xs ≡ true → (i : ℕ) → i < length xs → f (get_or xs i d) ≡ true
every_at f [] d e i h = absurd (omega arith)
every_at f (x ∷ xs) d e zero h = both_l (f x) (every f xs) e
every_at f (x ∷ xs) d e (suc i) h = every_at f xs d (both_r (f x) (every f xs) e) i (omega arith)
