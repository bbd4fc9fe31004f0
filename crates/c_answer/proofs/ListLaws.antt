-- Five numbers written one after the other to a list's start: by its first five.
use Prim.Native.Nat.{ℕ, ◌≤◌}
use mathlib.Core.Path.{◌≡◌, refl}
use mathlib.Core.List.{List, [], ◌∷◌}
use native.Mathlib.Omega.{arith}
use lib.ListN.{length, set, drop}

pub five_set : (t a b c n : ℕ) (old : List ℕ) → 5 ≤ length old → set (set (set (set (set old 0 t) 1 a) 2 b) 3 c) 4 n ≡ t ∷ a ∷ b ∷ c ∷ n ∷ drop 5 old
five_set t a b c n [] h = absurd (omega arith)
five_set t a b c n (x₁ ∷ []) h = absurd (omega arith)
five_set t a b c n (x₁ ∷ x₂ ∷ []) h = absurd (omega arith)
five_set t a b c n (x₁ ∷ x₂ ∷ x₃ ∷ []) h = absurd (omega arith)
five_set t a b c n (x₁ ∷ x₂ ∷ x₃ ∷ x₄ ∷ []) h = absurd (omega arith)
five_set t a b c n (x₁ ∷ x₂ ∷ x₃ ∷ x₄ ∷ x₅ ∷ old) h = refl
