-- A table filled from the front with what a function says of each entry of another is, once full, that function mapped over it.
use Prim.Native.Nat.{ℕ, zero, suc, ◌+◌, ◌<◌}
use mathlib.Core.Path.{◌≡◌, refl, sym, ◌∙◌}
use mathlib.Core.List.{List, [], ◌∷◌, map}
use native.Mathlib.Omega.{arith}
use lib.ListN.{length, get_or, set, length-map}
use lib.Seq.{get_or-set_same, get_or-set_other, ext_get_or}
use borrow.Author.Count.{below_more}

pub fill_more : (g : ℕ → ℕ) (a : List ℕ) (i v : ℕ) → i < length a → v ≡ g i → ((k : ℕ) → k < i → get_or a k 0 ≡ g k) → (k : ℕ) → k < i + 1 → get_or
    (set a i v) k 0 ≡ g k
fill_more g a i v h e below =
    below_more (λ (k : ℕ). get_or (set a i v) k 0 ≡ g k) i
    (λ k l. get_or-set_other a i k v 0 (λ q. omega arith) ∙ below k l)
    (get_or-set_same a i v 0 h ∙ e)

module _ {A : Type 0} (d : A) (g : A → ℕ) where
  pub map_at : (xs : List A) (k : ℕ) → k < length xs → get_or (map g xs) k 0 ≡ g (get_or xs k d)
  map_at [] k h = absurd (omega arith)
  map_at (x ∷ xs) zero h = refl
  map_at (x ∷ xs) (suc k) h = map_at xs k (omega arith)

  pub fill_done : (a : List ℕ) (xs : List A) → length a ≡ length xs → ((k : ℕ) → k < length xs → get_or a k 0 ≡ g (get_or xs k d)) → a ≡ map g xs
  fill_done a xs e below =
      ext_get_or 0 a (map g xs) (e ∙ sym (length-map xs g))
      (λ k l. let h : k < length xs = omega arith in below k h ∙ sym (map_at xs k h))
