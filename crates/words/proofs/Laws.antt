-- What the numbers of several bytes are at the end of the bytes, by computing each byte that is not there as 0; that an equation leaves one answer; and the
-- tests that all crates share, as facts.
use Prim.Native.Nat.{ℕ, ◌+◌, ◌*◌, ◌≤◌}
use mathlib.Core.Path.{◌≡◌, refl, sym, ap, ap₂, ◌∙◌, subst}
use mathlib.Core.List.{List}
use mathlib.Core.Bool.{Bool, true, false, false≢true, true≢false}
use lib.Dec.{T, leb}
use lib.IntN.{ℤ, pos, negsuc, nat_abs}
use lib.Signed.{lt_z, non_neg, nat_abs-le}
use mir.Syntax.{w64}
use mir.Val.{Fits, SFits}
use borrow.Author.Tests.{leb-true, le-leb}
use native.Mathlib.Omega.{arith}
use lib.ListN.{length, get_or-eq_default}
use mathlib.Core.Logic.{◌⊎◌, inl, inr}
use Rattle.words.specs.Tests.{pick, within_of, both_of}
use Rattle.words.specs.Words.{byte_at, two_at, four_at}

-- no second answer fits a promise that is an equation
pub one_answer : {A : Type 0} {r r' d : A} → r ≡ d → r' ≡ d → r ≡ r'
one_answer p q = p ∙ sym q

-- past the end each of these numbers is 0
module _ (b : List ℕ) (at : ℕ) (h : length b ≤ at) where
  pub byte_none : byte_at b at ≡ 0
  byte_none = get_or-eq_default b 0 h

pub two_none : (b : List ℕ) (at : ℕ) → length b ≤ at → two_at b at ≡ 0
unfolding two_at
two_none b at h = rw (byte_none b at h, byte_none b (at + 1) (omega arith))

pub four_none : (b : List ℕ) (at : ℕ) → length b ≤ at → four_at b at ≡ 0
unfolding four_at
four_none b at h = rw (two_none b at h, two_none b (at + 2) (omega arith))

-- the test of a range, and the fact
pub within_true : (lo x hi : ℕ) → within_of lo x hi ≡ true → (lo ≤ x) × (x ≤ hi)
within_true lo x hi e = go (leb lo x) (leb x hi) refl refl e
  where
    go : (a b : Bool) → leb lo x ≡ a → leb x hi ≡ b → both_of a b ≡ true → (lo ≤ x) × (x ≤ hi)
    go true true p q h = (leb-true lo x p, leb-true x hi q)
    go true false p q h = absurd (false≢true h)
    go false b p q h = absurd (false≢true h)

pub true_within : (lo x hi : ℕ) → lo ≤ x → x ≤ hi → within_of lo x hi ≡ true
true_within lo x hi l h = rw (le-leb lo x l, le-leb x hi h)

pub within_false : (lo x hi : ℕ) → within_of lo x hi ≡ false → (lo ≤ x) × (x ≤ hi) → ⊥
within_false lo x hi e h = false≢true (sym e ∙ true_within lo x hi h.0 h.1)

-- ---- tests put together

pub both≡ : {r a b a' b' : Bool} → r ≡ both_of a b → a ≡ a' → b ≡ b' → r ≡ both_of a' b'
both≡ e p q = e ∙ ap₂ both_of p q

pub both_false : (a : Bool) → both_of a false ≡ false
both_false true = refl
both_false false = refl

pub both_true : (a : Bool) → a ≡ both_of a true
both_true true = refl
both_true false = refl

pub both_l : (a b : Bool) → both_of a b ≡ true → a ≡ true
both_l true b h = refl
both_l false b h = h

pub both_r : (a b : Bool) → both_of a b ≡ true → b ≡ true
both_r true b h = h
both_r false b h = absurd (false≢true h)

pub both_make : (a b : Bool) → a ≡ true → b ≡ true → both_of a b ≡ true
both_make a b p q = simp (p, q)

pub pick_true : {A : Type 0} (b : Bool) (x y : A) → b ≡ true → pick b x y ≡ x
pick_true b x y h = ap (λ (t : Bool). pick t x y) h

pub pick_false : {A : Type 0} (b : Bool) (x y : A) → b ≡ false → pick b x y ≡ y
pick_false b x y h = ap (λ (t : Bool). pick t x y) h

pub cases : (b : Bool) → (b ≡ true) ⊎ (b ≡ false)
cases true = inl refl
cases false = inr refl

-- what the machine reads back of a signed number, where it is not negative, may be used as an unsigned one
pub natural_fits : (z v : ℤ) → z ≡ v → lt_z z (pos 0) ≡ false → SFits w64 v → T (non_neg z) × Fits w64 (nat_abs z)
natural_fits z v e h s = (not_negative z h, subst (λ (x : ℤ). Fits w64 (nat_abs x)) (sym e) (record { fits = omega (arith, nat_abs-le v s.sfits) }))
  where
    not_negative : (x : ℤ) → lt_z x (pos 0) ≡ false → T (non_neg x)
    not_negative (pos n) h = tt
    not_negative (negsuc n) h = absurd (true≢false h)

-- the four bytes one by one
pub four_bytes : (b : List ℕ) (at : ℕ) → (byte_at b at * 256 + byte_at b (at + 1)) * 65536 + (byte_at b (at + 2) * 256 + byte_at b (at + 3)) ≡ four_at b at
unfolding four_at two_at
four_bytes b at = let e : at + 3 ≡ at + 2 + 1 = omega arith in rw e
