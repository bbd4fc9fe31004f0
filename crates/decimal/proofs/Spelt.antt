-- The two shapes of mantissa as one, with a point or without and with d places behind it, so that each fact is shown once over both: a whole number is
-- spelt without a point and with its last digit as the one place.
use Prim.Native.Nat.{ℕ, zero, suc, ◌-◌}
use mathlib.Core.Path.{◌≡◌, refl, subst}
use mathlib.Core.List.{List, [], ◌∷◌, ◌++◌}
use mathlib.Core.Bool.{Bool, true, false}
use native.Mathlib.Omega.{arith}
use lib.ListN.{length, replicate, take, drop, take-append-drop, length-drop, length-append}
use lib.IntN.{ℤ}
use Rattle.decimal.specs.Grammar.{Numeral, after, Lead, signed_of, WholeNumber, whole, PointNumber, point}

-- the point, where there is one
abbrev pub dot : Bool → List ℕ
dot true = 46 ∷ []
dot false = []

-- blanks, a sign or none, blanks behind it where there is a point, digits, the point where p says so, and d digits: the sign, and the number without the
-- point
pub data Spelt (p : Bool) (d : ℕ) : List ℕ → Bool → ℕ → Type 0 where
  spelt : (b : ℕ) {g : List ℕ} {s : Bool} (ws ps : List ℕ) → Lead p g s → Numeral ws → Numeral ps → length ps ≡ d
      → Spelt p d (replicate b 32 ++ (g ++ (ws ++ (dot p ++ ps)))) s (after 0 (ws ++ ps))

-- bytes that are spelt so, and the signed number that they say
pub record Mantissa (p : Bool) (d : ℕ) (bs : List ℕ) (m : ℤ) : Type 0 where
  pub minus : Bool
  pub digits : ℕ
  pub spelt : Spelt p d bs minus digits
  pub value : signed_of minus digits ≡ m

numeral_append : (xs ys : List ℕ) → Numeral xs → Numeral ys → Numeral (xs ++ ys)
numeral_append [] ys n m = m
numeral_append (x ∷ xs) ys n m = (n.0, n.1, numeral_append xs ys n.2 m)

numeral_take : (k : ℕ) (xs : List ℕ) → Numeral xs → Numeral (take k xs)
numeral_take zero xs n = tt
numeral_take (suc k) [] n = tt
numeral_take (suc k) (x ∷ xs) n = (n.0, n.1, numeral_take k xs n.2)

numeral_drop : (k : ℕ) (xs : List ℕ) → Numeral xs → Numeral (drop k xs)
numeral_drop zero xs n = n
numeral_drop (suc k) [] n = tt
numeral_drop (suc k) (x ∷ xs) n = numeral_drop k xs n.2

pub to_point : {d : ℕ} {bs : List ℕ} {s : Bool} {a : ℕ} → Spelt true d bs s a → PointNumber true d bs (signed_of s a)
to_point (spelt b ws ps l n m e) = point b ws ps l n m e

pub to_whole : {bs : List ℕ} {s : Bool} {a : ℕ} → Spelt false 1 bs s a → WholeNumber bs (signed_of s a)
to_whole (spelt b ws ps l n m e) = whole b (ws ++ ps) l (numeral_append ws ps n m) (omega (arith, length-append ws ps))

pub of_point : {d : ℕ} {bs : List ℕ} {m : ℤ} → PointNumber true d bs m → Mantissa true d bs m
of_point (point b {g} {s} ws ps l n k e) = record { minus = s; digits = after 0 (ws ++ ps); spelt = spelt b ws ps l n k e; value = refl }

pub of_whole : {bs : List ℕ} {m : ℤ} → WholeNumber bs m → Mantissa false 1 bs m
of_whole (whole b {g} {s} ds l n h) =
    let k = length ds - 1 in
    record {
      minus = s;
      digits = after 0 ds;
      spelt =
          subst (λ (t : List ℕ). Spelt false 1 (replicate b 32 ++ (g ++ t)) s (after 0 t)) (take-append-drop k ds)
          (spelt b (take k ds) (drop k ds) l (numeral_take k ds n) (numeral_drop k ds n) (rw length-drop (omega arith)));
      value = refl;
    }
