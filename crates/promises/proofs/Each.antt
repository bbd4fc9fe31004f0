-- What holds at each of a few places in turn holds at every place between them, by counting.
use Prim.Native.Nat.{ℕ, zero, suc, ◌+◌, ◌≤◌, ◌<◌}
use mathlib.Core.Path.{◌≡◌, refl, subst}
use mathlib.Core.Bool.{Bool, true, false}
use native.Mathlib.Omega.{arith}
use lib.Dec.{eqb}
use borrow.Author.Tests.{eqb-true, eqb-false}

-- at m places from i on
abbrev pub Each : (ℕ → Type 0) → ℕ → ℕ → Type 0
Each P i zero = Unit {0}
Each P i (suc m) = P i × Each P (suc i) m

-- one place, then those behind it
pub next : {A B : Type 0} → A → B → A × B
next a b = (a, b)

-- at any of them
pub each_at : (P : ℕ → Type 0) (i m : ℕ) → Each P i m → (k : ℕ) → i ≤ k → k < i + m → P k
each_at P i zero h k l u = absurd (omega arith)
each_at P i (suc m) h k l u = go (eqb i k) refl (λ n. each_at P (suc i) m h.1 k (omega arith) (omega arith))
  where
    go : (b : Bool) → eqb i k ≡ b → ((i ≡ k → ⊥) → P k) → P k
    go true e g = subst P (eqb-true i k e) h.0
    go false e g = g (eqb-false i k e)
