-- What the grammar says without blanks behind a sign it says with them too: the sign that touches what follows has none.
use Prim.Native.Nat.{ℕ}
use mathlib.Core.Path.{◌≡◌, refl}
use mathlib.Core.List.{List}
use mathlib.Core.Bool.{Bool, true, false, false≢true}
use lib.IntN.{ℤ}
use Rattle.decimal.specs.Grammar.{Gap, Lead, bare, with, PointNumber, point, Good, blank, whole, fixed, expo, WellWrittenBy}
use Rattle.decimal.specs.declared.Form.{Form}
use Rattle.decimal.specs.declared.Shape.{Shape}
use Rattle.decimal.specs.Written.{Written}

module _ (a b : Bool) (more : a ≡ true → b ≡ true) where
  gap : (x y : Bool) → (x ≡ true → y ≡ true) → (n : ℕ) → Gap x n → Gap y n
  gap true true m n g = tt
  gap true false m n g = absurd (false≢true (m refl))
  gap false true m n g = tt
  gap false false m n g = g

  lead : {g : List ℕ} {s : Bool} → Lead a g s → Lead b g s
  lead bare = bare
  lead (with g n h) = with g n (gap a b more n h)

  pointed : {d : ℕ} {bs : List ℕ} {m : ℤ} → PointNumber a d bs m → PointNumber b d bs m
  pointed (point n ws ps l x y e) = point n ws ps (lead l) x y e

  good : {k : Shape} {bs : List ℕ} {r : Written} → Good a k bs r → Good b k bs r
  good (blank k n) = blank k n
  good (whole w) = whole w
  good (fixed w) = fixed (pointed w)
  good (expo w g ds n e) = expo (pointed w) g ds n e

  pub wider : (k : Form) (bs : List ℕ) (r : Written) → WellWrittenBy a k bs r → WellWrittenBy b k bs r
  wider k bs r (l, g) = (l, good g)
