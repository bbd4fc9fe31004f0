-- A whole number read in one go: behind the blanks the last digit is read as those before it, so the head and its one place are a sign or none and digits.
use Prim.Native.Nat.{ℕ, zero, suc, ◌+◌, ◌-◌, ◌*◌, ◌<◌}
use mathlib.Core.Path.{◌≡◌, refl, sym, ap, ◌∙◌}
use mathlib.Core.List.{List, [], ◌∷◌}
use mathlib.Core.Bool.{Bool, true, false}
use Rattle.std.proofs.Common.{Option, None}
use native.Mathlib.Omega.{arith}
use lib.Dec.{eqb}
use lib.ListN.{length, get_or, take, drop}
use lib.Seq.{slice, take-length}
use borrow.Author.Tests.{eqb-true}
use Rattle.words.specs.Tests.{pick}
use Rattle.digits.specs.Segments.{after_blanks, digit?, digits_of, with_sign, signs, head_of, on_part, mantissa_of, Skipped}
use Rattle.digits.specs.declared.Signed.{Signed}
use Rattle.digits.proofs.Laws.{one, none}

-- digits behind a sign, one at least
abbrev some : Bool → List ℕ → Option Signed
some s [] = None
some s (d ∷ ds) = with_sign s (digits_of 0 (d ∷ ds))

-- a sign or none, and digits
abbrev whole_of : ℕ → List ℕ → Option Signed
whole_of c cs = pick (eqb c 45) (some true cs) (pick (eqb c 43) (some false cs) (with_sign false (digits_of 0 (c ∷ cs))))

-- the mantissa with its head cut at m
abbrev cut : ℕ → List ℕ → Option Signed
cut m f = on_part (head_of false (take m f)) None (λ s a. with_sign s (digits_of a (drop m f)))

cut_is : (f : List ℕ) → mantissa_of false 1 f ≡ cut (length f - 1) f
unfolding mantissa_of
cut_is f = refl

-- digits that were cut in two are those digits
joined : (s : Bool) (a m : ℕ) (xs : List ℕ) → on_part (with_sign s (digits_of a (take m xs))) None (λ t b. with_sign t (digits_of b (drop m xs))) ≡ with_sign s
    (digits_of a xs)
joined s a zero xs = refl
joined s a (suc m) [] = refl
joined s a (suc m) (x ∷ xs) = go (digit? x) (joined s (a * 10 + (x - 48)) m xs)
  where
    go : (b : Bool)
        → on_part (with_sign s (digits_of (a * 10 + (x - 48)) (take m xs))) None (λ t b. with_sign t (digits_of b (drop m xs)))
        ≡ with_sign s (digits_of (a * 10 + (x - 48)) xs)
        → on_part (with_sign s (pick b (digits_of (a * 10 + (x - 48)) (take m xs)) None)) None (λ t b. with_sign t (digits_of b (drop m xs)))
        ≡ with_sign s (pick b (digits_of (a * 10 + (x - 48)) xs) None)
    go true r = r
    go false r = refl

-- behind the blanks
front : (c : ℕ) (cs : List ℕ) → eqb c 32 ≡ false → cut (length cs) (c ∷ cs) ≡ whole_of c cs
front c [] e = go (eqb c 45) (eqb c 43) refl refl
  where
    go : (b b' : Bool) → eqb c 45 ≡ b → eqb c 43 ≡ b' → with_sign false (digits_of 0 (c ∷ []))
        ≡ pick b None (pick b' None (with_sign false (digits_of 0 (c ∷ []))))
    go true b' p q = ap (λ (x : ℕ). with_sign false (digits_of 0 (x ∷ []))) (eqb-true c 45 p)
    go false true p q = ap (λ (x : ℕ). with_sign false (digits_of 0 (x ∷ []))) (eqb-true c 43 q)
    go false false p q = refl
front c (d ∷ ds) e = rw e (go (length ds) (eqb c 45) (eqb c 43))
  where
    go : (m : ℕ) (b b' : Bool)
        → on_part
        (pick b (with_sign true (digits_of 0 (take m (d ∷ ds))))
        (pick b' (with_sign false (digits_of 0 (take m (d ∷ ds)))) (with_sign false (digits_of 0 (c ∷ take m (d ∷ ds))))))
        None (λ s a. with_sign s (digits_of a (drop m (d ∷ ds))))
        ≡ pick b (with_sign true (digits_of 0 (d ∷ ds))) (pick b' (with_sign false (digits_of 0 (d ∷ ds))) (with_sign false (digits_of 0 (c ∷ (d ∷ ds)))))
    go m true b' = joined true 0 m (d ∷ ds)
    go m false true = joined false 0 m (d ∷ ds)
    go m false false = joined false 0 (suc m) (c ∷ (d ∷ ds))

-- the blanks before it change nothing
whole_is : (f : List ℕ) (c : ℕ) (cs : List ℕ) → after_blanks f ≡ c ∷ cs → cut (length f - 1) f ≡ whole_of c cs
whole_is [] c cs e = let z : ◌≡◌ {A = ℕ} 0 1 = cc in absurd (omega arith)
whole_is (x ∷ xs) c cs e =
    ap (λ (m : ℕ). cut m (x ∷ xs)) (let l : length (x ∷ xs) - 1 ≡ length xs = omega arith in l) ∙ go (eqb x 32) refl xs refl (whole_is xs c cs) e
  where
    go : (b : Bool) → eqb x 32 ≡ b → (ys : List ℕ) → xs ≡ ys → (after_blanks ys ≡ c ∷ cs → cut (length ys - 1) ys ≡ whole_of c cs)
        → pick b (after_blanks ys) (x ∷ ys) ≡ c ∷ cs → cut (length ys) (x ∷ ys) ≡ whole_of c cs
    go true q [] l r h = let z : ◌≡◌ {A = ℕ} 0 1 = cc in absurd (omega arith)
    go true q (y ∷ ys) l r h = rw q (ap (λ (m : ℕ). cut m (y ∷ ys)) (let l : length ys ≡ length (y ∷ ys) - 1 = omega arith in l) ∙ r h)
    go false q ys l r h =
        let a : x ≡ c = cc in
        let b : ys ≡ cs = cc in
        front x ys q ∙ ap (λ (y : ℕ). whole_of y ys) a ∙ ap (λ (l : List ℕ). whole_of c l) b

-- a whole number by the byte at k, its first that is no blank
module _ (f : List ℕ) (k : ℕ) (skips : Skipped f 0 (length f) k) (h : k < length f) where
  left_over : after_blanks f ≡ get_or f k 0 ∷ slice (k + 1) (length f) f
  left_over = ap after_blanks (sym (take-length f)) ∙ sym skips.rest ∙ one f k (length f) h (omega arith)

  by_byte : mantissa_of false 1 f ≡ whole_of (get_or f k 0) (slice (k + 1) (length f) f)
  by_byte = cut_is f ∙ whole_is f (get_or f k 0) (slice (k + 1) (length f) f) left_over

  nothing : k + 1 ≡ length f → slice (k + 1) (length f) f ≡ []
  nothing e = none f (k + 1) (length f) (omega arith) (omega arith)

  -- digits, one at least, behind a sign
  behind : (s : Bool) → (k + 1 ≡ length f → ⊥) → some s (slice (k + 1) (length f) f) ≡ with_sign s (digits_of 0 (slice (k + 1) (length f) f))
  behind s n = rw (one f (k + 1) (length f) (omega arith) (omega arith))

  pub sign_alone : k + signs (get_or f k 0) ≡ length f → mantissa_of false 1 f ≡ None
  sign_alone e = by_byte ∙ go (eqb (get_or f k 0) 45) (eqb (get_or f k 0) 43) e
    where
      go : (a b : Bool) → k + pick a 1 (pick b 1 0) ≡ length f
          → pick a (some true (slice (k + 1) (length f) f))
          (pick b (some false (slice (k + 1) (length f) f)) (with_sign false (digits_of 0 (get_or f k 0 ∷ slice (k + 1) (length f) f))))
          ≡ None
      go true b q = rw (nothing q)
      go false true q = rw (nothing q)
      go false false q = absurd (omega arith)

  pub from_byte : (k + signs (get_or f k 0) ≡ length f → ⊥)
      → mantissa_of false 1 f ≡ with_sign (eqb (get_or f k 0) 45) (digits_of 0 (slice (k + signs (get_or f k 0)) (length f) f))
  from_byte n = by_byte ∙ go (eqb (get_or f k 0) 45) (eqb (get_or f k 0) 43) n
    where
      go : (a b : Bool) → (k + pick a 1 (pick b 1 0) ≡ length f → ⊥)
          → pick a (some true (slice (k + 1) (length f) f))
          (pick b (some false (slice (k + 1) (length f) f)) (with_sign false (digits_of 0 (get_or f k 0 ∷ slice (k + 1) (length f) f))))
          ≡ with_sign a (digits_of 0 (slice (k + pick a 1 (pick b 1 0)) (length f) f))
      go true b q = behind true q
      go false true q = behind false q
      go false false q =
          let z : k ≡ k + 0 = omega arith in
          ap (λ (l : List ℕ). with_sign false (digits_of 0 l)) (sym (one f k (length f) h (omega arith)))
          ∙ ap (λ (x : ℕ). with_sign false (digits_of 0 (slice x (length f) f))) z
