-- Bytes that stand within others from a place on: they are found at the front, behind what goes before them, and within what stands there itself; and
-- they are what is read there.
use Prim.Native.Nat.{ℕ, ◌+◌}
use mathlib.Core.Path.{◌≡◌, refl, sym, ap, ◌∙◌}
use mathlib.Core.List.{List, [], ◌++◌, append_assoc}
use native.Mathlib.Omega.{arith}
use lib.ListN.{length, take, drop, length-append}
use lib.Seq.{take_at, drop_at}

-- x stands in r from place m on
pub record Stands (x : List ℕ) (m : ℕ) (r : List ℕ) : Type 0 where
  pub before : List ℕ
  pub behind : List ℕ
  pub is : r ≡ before ++ (x ++ behind)
  pub place : length before ≡ m

pub here : (x b : List ℕ) (n : ℕ) → n ≡ 0 → Stands x n (x ++ b)
here x b n e = record { before = []; behind = b; is = refl; place = sym e }

module _ {x : List ℕ} {m : ℕ} where
  pub behind : (a : List ℕ) {b : List ℕ} (n : ℕ) → n ≡ length a + m → Stands x m b → Stands x n (a ++ b)
  behind a n e s =
      record {
        before = a ++ s.before;
        behind = s.behind;
        is = ap (λ (y : List ℕ). a ++ y) s.is ∙ sym (append_assoc a s.before (x ++ s.behind));
        place = let p = s.place in omega (arith, length-append a s.before);
      }

  pub within : {y : List ℕ} {i : ℕ} {r : List ℕ} (n : ℕ) → n ≡ m + i → Stands y i x → Stands x m r → Stands y n r
  within {y} n e t s =
      record {
        before = s.before ++ t.before;
        behind = t.behind ++ s.behind;
        is = s.is ∙ ap (λ (z : List ℕ). s.before ++ (z ++ s.behind)) t.is ∙ simp append_assoc;
        place = let p = s.place in let q = t.place in omega (arith, length-append s.before t.before);
      }

  pub read : {r : List ℕ} (w : ℕ) → length x ≡ w → Stands x m r → take w (drop m r) ≡ x
  read {r} w e s =
      ap (λ (y : List ℕ). take w (drop m y)) s.is
      ∙ ap (take w) (drop_at s.before (x ++ s.behind) m s.place)
      ∙ take_at x s.behind w e
