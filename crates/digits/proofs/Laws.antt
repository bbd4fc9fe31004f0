-- One step of each segment of the scanner along a slice, each by computing the definition at the byte that stands there.
use Prim.Native.Nat.{ℕ, zero-le, ◌+◌, ◌-◌, ◌*◌, ◌^◌, ◌≤◌, ◌<◌}
use mathlib.Core.Path.{◌≡◌, refl, sym, ap, ◌∙◌, subst}
use mathlib.Core.List.{List, [], ◌∷◌}
use mathlib.Core.Bool.{Bool, true, false}
use Rattle.std.proofs.Common.{Option, Some, None}
use native.Mathlib.Numerals.{add-one}
use lib.Dec.{eqb}
use native.Mathlib.Nat.{pow-suc, pow-le-pow_right}
use native.Mathlib.Omega.{arith}
use lib.ListN.{length, get_or, take, drop, length-drop}
use lib.Seq.{slice, slice-cons, slice_empty, length-slice, take-length, length-take-le}
use Rattle.std.proofs.lemmas.List.{drop-take}
use borrow.Author.Tests.{ne_eqb, eqb-false, le-leb}
use Rattle.words.specs.Tests.{pick}
use Rattle.words.proofs.Laws.{within_true}
use Rattle.digits.specs.Segments.{after_blanks, digit?, digits_of, Under, Small, with_sign, sign_of, signs, signed_digits, exponent_of, Is}
use Rattle.digits.specs.declared.Signed.{Signed}

-- the part of the bytes that a loop goes through
pub part : (f : List ℕ) (at end : ℕ) → at ≤ end → take (end - at) (drop at f) ≡ slice at end f
part f at end h =
    let e : at + (end - at) ≡ end = omega arith in
    sym (drop-take at (end - at) f) ∙ ap (λ (n : ℕ). slice at n f) e

pub length_part : (f : List ℕ) (at end : ℕ) → end ≤ length f → length (take (end - at) (drop at f)) ≡ end - at
length_part f at end h = length-take-le (end - at) (drop at f) (omega (arith, length-drop at f))

module _ (f : List ℕ) (i end : ℕ) (h : i < end) (k : end ≤ length f) where
  pub one : slice i end f ≡ get_or f i 0 ∷ slice (i + 1) end f
  one = rw (add-one, slice-cons i end f 0 h k)

  pub run_more : (a : ℕ) → 48 ≤ get_or f i 0 → get_or f i 0 ≤ 57 → digits_of a (slice i end f) ≡ digits_of (a * 10 + (get_or f i 0 - 48)) (slice (i + 1) end f)
  run_more a l m = rw (one, le-leb 48 (get_or f i 0) l, le-leb (get_or f i 0) 57 m)

-- one digit more
pub grows : (a c i : ℕ) → a < 10 ^ i → c ≤ 57 → a * 10 + (c - 48) < 10 ^ (i + 1)
grows a c i h k = rw (add-one, pow-suc) (omega arith)

-- the same where the room for digits is counted from the end
pub grows_to : (a c i end : ℕ) → end ≤ i + 18 → a < 10 ^ (i + 18 - end) → c ≤ 57 → a * 10 + (c - 48) < 10 ^ (i + 1 + 18 - end)
grows_to a c i end l h k =
    let e : i + 18 - end + 1 ≡ i + 1 + 18 - end = omega arith in
    subst (λ x. a * 10 + (c - 48) < 10 ^ x) e (grows a c (i + 18 - end) h k)

pub room : (k : ℕ) {a i : ℕ} → i ≤ k → a < 10 ^ i → a < 10 ^ k
room k {a} {i} h l = let p : 10 ^ i ≤ 10 ^ k = pow-le-pow_right (omega arith) h in omega arith

-- at the end nothing is left
module _ (f : List ℕ) (i end : ℕ) (h : i ≤ end) (k : end ≤ i) where
  pub none : slice i end f ≡ []
  none = let e : i ≡ end = omega arith in rw e (slice_empty end f)

pub none_yet : (i : ℕ) → 0 < 10 ^ i
none_yet i = let p : 10 ^ 0 ≤ 10 ^ i = pow-le-pow_right (omega arith) zero-le in omega arith

-- digits behind d others make a number of that many digits at most
under : (cs : List ℕ) (a d : ℕ) → a < 10 ^ d → Under (10 ^ (d + length cs)) (digits_of a cs)
under [] a d h = let e : d ≡ d + 0 = omega arith in subst (λ x. a < 10 ^ x) e h
under (c ∷ cs) a d h = go (digit? c) refl (under cs (a * 10 + (c - 48)) (d + 1))
  where
    go : (b : Bool) → digit? c ≡ b → (a * 10 + (c - 48) < 10 ^ (d + 1) → Under (10 ^ (d + 1 + length cs)) (digits_of (a * 10 + (c - 48)) cs))
        → Under (10 ^ (d + length (c ∷ cs))) (pick b (digits_of (a * 10 + (c - 48)) cs) None)
    go true q r =
        let e : d + 1 + length cs ≡ d + length (c ∷ cs) = omega arith in
        subst (λ x. Under (10 ^ x) (digits_of (a * 10 + (c - 48)) cs)) e (r (grows a c d h (within_true 48 c 57 q).1))
    go false q r = tt

wider : (m n : ℕ) (d : Option ℕ) → m ≤ n → Under (10 ^ m) d → Under (10 ^ n) d
wider m n (Some a) h u = room n h u
wider m n None h u = tt

pub few : (f : List ℕ) (at end a d m : ℕ) → end ≤ length f → a < 10 ^ d → d + (end - at) ≤ m → Under (10 ^ m) (digits_of a (slice at end f))
few f at end a d m l h k =
    wider (d + length (slice at end f)) m (digits_of a (slice at end f)) (rw (length-slice at end f l) k) (under (slice at end f) a d h)

-- there are no more bytes behind the blanks
pub shorter : (cs : List ℕ) → length (after_blanks cs) ≤ length cs
shorter [] = omega arith
shorter (c ∷ cs) = go (eqb c 32) (shorter cs)
  where
    go : (b : Bool) → length (after_blanks cs) ≤ length cs → length (pick b (after_blanks cs) (c ∷ cs)) ≤ length (c ∷ cs)
    go true h = omega arith
    go false h = omega arith

-- so digits behind blanks are no more than there are bytes
pub few_behind : (f : List ℕ) (at end m : ℕ) → end ≤ length f → end - at ≤ m → Under (10 ^ m) (digits_of 0 (after_blanks (slice at end f)))
few_behind f at end m l k =
    let xs = slice at end f in
    wider (0 + length (after_blanks xs)) m (digits_of 0 (after_blanks xs)) (omega (arith, shorter xs, length-slice at end f l))
    (under (after_blanks xs) 0 0 (none_yet 0))

-- what is left behind the blanks begins with no blank
pub inked : (xs : List ℕ) (c : ℕ) (cs : List ℕ) → after_blanks xs ≡ c ∷ cs → c ≡ 32 → ⊥
inked [] c cs e q = let z : ◌≡◌ {A = ℕ} 0 1 = cc in omega arith
inked (x ∷ xs) c cs e q = go (eqb x 32) refl e (λ h. inked xs c cs h q)
  where
    go : (b : Bool) → eqb x 32 ≡ b → pick b (after_blanks xs) (x ∷ xs) ≡ c ∷ cs → (after_blanks xs ≡ c ∷ cs → ⊥) → ⊥
    go true p h r = r h
    go false p h r = eqb-false x 32 p ((let y : x ≡ c = cc in y) ∙ q)

-- a part made of a sign and of digits that were read
pub made : (s : Bool) (d : Option ℕ) {x r : Option Signed} → r ≡ with_sign s d → Under (10 ^ 18) d → x ≡ with_sign s d → Is 18 x r
made s d {x} {r} e u q = record { is = e ∙ sym q; small = rw e (go d u) }
  where
    go : (y : Option ℕ) → Under (10 ^ 18) y → Small (10 ^ 18) (with_sign s y)
    go (Some a) v = v
    go None v = tt

-- a sign is a byte
pub one_byte : (c : ℕ) → signs c ≤ 1
one_byte c = go (eqb c 45) (eqb c 43)
  where
    go : (a b : Bool) → pick a 1 (pick b 1 0) ≤ 1
    go true b = omega arith
    go false true = omega arith
    go false false = omega arith

-- a sign or none at the front, and blanks behind the sign
pub signed : (c : ℕ) (cs : List ℕ) → (c ≡ 32 → ⊥) → sign_of true (c ∷ cs) ≡ with_sign (eqb c 45) (digits_of 0 (after_blanks (drop (signs c) (c ∷ cs))))
signed c cs n = go (eqb c 45) (eqb c 43)
  where
    go : (a b : Bool)
        → pick a (with_sign true (digits_of 0 (after_blanks cs)))
        (pick b (with_sign false (digits_of 0 (after_blanks cs))) (with_sign false (digits_of 0 (c ∷ cs))))
        ≡ with_sign a (digits_of 0 (after_blanks (drop (pick a 1 (pick b 1 0)) (c ∷ cs))))
    go true b = refl
    go false true = refl
    go false false = ap (λ (b : Bool). with_sign false (digits_of 0 (pick b (after_blanks cs) (c ∷ cs)))) (sym (ne_eqb c 32 n))

-- an exponent by its bytes
pub exp_is : (f : List ℕ) (at : ℕ) → at + 4 ≡ length f
    → exponent_of (drop at f) ≡ pick (eqb (get_or f at 0) 69) (signed_digits (get_or f (at + 1) 0) (slice (at + 2) (at + 4) f)) None
unfolding exponent_of
exp_is f at h =
    let e : at + 1 + 1 ≡ at + 2 = omega arith in
    ap exponent_of (sym four ∙ one f at (at + 4) (omega arith) (omega arith)
    ∙ ap (λ (l : List ℕ). get_or f at 0 ∷ l) (one f (at + 1) (at + 4) (omega arith) (omega arith)))
    ∙ ap (λ (x : ℕ). pick (eqb (get_or f at 0) 69) (signed_digits (get_or f (at + 1) 0) (slice x (at + 4) f)) None) e
  where
    four : slice at (at + 4) f ≡ drop at f
    four = rw h (ap (drop at) (take-length f))
