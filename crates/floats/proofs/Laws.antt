-- The finiteness test against the two infinities, the patterns of NaNs, the bits that a float keeps, and the power: it is finite only where both parts are.
use mathlib.Core.Path.{◌≡◌, refl, sym, ◌∙◌, subst}
use mathlib.Core.Bool.{Bool, true, false, not, false≢true, true≢false}
use Prim.Native.Nat.{ℕ, ◌%◌, ◌<◌, ◌≤◌}
use native.Mathlib.Nat.{not-le_of_lt}
use lib.Dec.{T, ltb, lt→ltb, ltb→lt, not_T}
use lib.Ieee.{Float, nan, inf, fin, binary32, add, mul, div, neg, lt, is_nan, nan_bits, of_bits, to_bits}
use lib.Ieee.Bits.{is_true, to_bits-of_bits, nan_bits_is, nan_bits_above}
use Rattle.words.specs.Tests.{pick, both_of}
use Rattle.floats.specs.Floats.{float_of, finite_of, squares, all_finite, power_of}
use Rattle.std.specs.Prelude.{Some, None}

-- ---- the test against the infinities

top_is : of_bits binary32 2139095040 ≡ inf false
unfolding of_bits
top_is = refl

pub top_no_nan : T (not (nan_bits binary32 2139095040))
unfolding nan_bits
top_no_nan = tt

low_yes : (x : Float) → lt (neg (inf false)) x ≡ true → lt x (inf false) ≡ finite_of x
unfolding lt neg finite_of
low_yes nan h = refl
low_yes (inf true) h = absurd (false≢true h)
low_yes (inf false) h = refl
low_yes (fin s m e) h = refl

low_no : (x : Float) → lt (neg (inf false)) x ≡ false → lt (neg (inf false)) x ≡ finite_of x
unfolding lt neg finite_of
low_no nan h = refl
low_no (inf true) h = refl
low_no (inf false) h = absurd (true≢false h)
low_no (fin s m e) h = refl

pub above_low : (x : Float) → lt (neg (of_bits binary32 2139095040)) x ≡ true → lt x (of_bits binary32 2139095040) ≡ finite_of x
above_low x h = rw top_is (low_yes x (rw top_is at h))

pub not_above_low : (x : Float) → lt (neg (of_bits binary32 2139095040)) x ≡ false → lt (neg (of_bits binary32 2139095040)) x ≡ finite_of x
not_above_low x h = rw top_is (low_no x (rw top_is at h))

-- ---- patterns of NaNs

only_nan : (x : Float) → is_nan x ≡ true → x ≡ nan
unfolding is_nan
only_nan nan h = refl
only_nan (inf s) h = absurd (false≢true h)
only_nan (fin s m e) h = absurd (false≢true h)

pub zero_by_zero : div binary32 (of_bits binary32 0) (of_bits binary32 0) ≡ nan
unfolding div of_bits
zero_by_zero = refl

pub reads_nan : (n : ℕ) → 2139095040 < n % 2147483648 → float_of n ≡ nan
reads_nan n h = only_nan (of_bits binary32 n) (sym (nan_bits_is binary32 n) ∙ nan_bits_above binary32 n ∙ is_true _ (lt→ltb 2139095040 (n % 2147483648) h))

pub no_nan_lem : (n : ℕ) → n % 2147483648 ≤ 2139095040 → T (not (nan_bits binary32 n))
no_nan_lem n h = rw nan_bits_above (not_T (ltb 2139095040 (n % 2147483648)) (λ t. not-le_of_lt (ltb→lt 2139095040 (n % 2147483648) t) h))

-- the float of a pattern that is no NaN's has that pattern
pub bits_kept : (n : ℕ) → n < 4294967296 → T (not (nan_bits binary32 n)) → to_bits binary32 (float_of n) ≡ n
bits_kept n h k = to_bits-of_bits binary32 n h (subst (λ (b : Bool). T (not b)) (nan_bits_is binary32 n) k)

pub fin_no_nan : (x : Float) → finite_of x ≡ true → T (not (is_nan x))
unfolding is_nan finite_of
fin_no_nan nan h = absurd (false≢true h)
fin_no_nan (inf s) h = tt
fin_no_nan (fin s m e) h = tt

-- ---- the power is finite only where both parts are

square_fin : (x : Float) → finite_of (mul binary32 x x) ≡ true → finite_of x ≡ true
unfolding mul finite_of
square_fin nan h = h
square_fin (inf s) h = h
square_fin (fin s m e) h = refl

sum_fin_l : (x y : Float) → finite_of (add binary32 x y) ≡ true → finite_of x ≡ true
unfolding add finite_of
sum_fin_l nan y h = h
sum_fin_l (inf s) nan h = h
sum_fin_l (inf true) (inf true) h = h
sum_fin_l (inf true) (inf false) h = h
sum_fin_l (inf false) (inf true) h = h
sum_fin_l (inf false) (inf false) h = h
sum_fin_l (inf s) (fin t n d) h = h
sum_fin_l (fin s m e) y h = refl

sum_fin_r : (x y : Float) → finite_of (add binary32 x y) ≡ true → finite_of y ≡ true
unfolding add finite_of
sum_fin_r nan y h = absurd (false≢true h)
sum_fin_r (inf s) nan h = h
sum_fin_r (inf true) (inf true) h = h
sum_fin_r (inf true) (inf false) h = h
sum_fin_r (inf false) (inf true) h = h
sum_fin_r (inf false) (inf false) h = h
sum_fin_r (inf s) (fin t n d) h = refl
sum_fin_r (fin s m e) nan h = h
sum_fin_r (fin s m e) (inf t) h = h
sum_fin_r (fin s m e) (fin t n d) h = refl

pub re_fin : (re im : Float) → finite_of (squares re im) ≡ true → finite_of re ≡ true
unfolding squares
re_fin re im h = square_fin re (sum_fin_l (mul binary32 re re) (mul binary32 im im) h)

pub im_fin : (re im : Float) → finite_of (squares re im) ≡ true → finite_of im ≡ true
unfolding squares
im_fin re im h = square_fin im (sum_fin_r (mul binary32 re re) (mul binary32 im im) h)

last_no : (a b c : Bool) → c ≡ false → both_of a (both_of b c) ≡ false
last_no true true c h = h
last_no true false c h = refl
last_no false b c h = refl

module _ (re im : ℕ) (p : Float) (is : p ≡ squares (float_of re) (float_of im)) where
  pub power_yes : finite_of p ≡ true → Some (to_bits binary32 p) ≡ power_of re im
  unfolding power_of all_finite
  power_yes h =
      let f : finite_of (squares (float_of re) (float_of im)) ≡ true = rw is at h in
      rw (re_fin (float_of re) (float_of im) f, im_fin (float_of re) (float_of im) f, f, is)

  pub power_no : finite_of p ≡ false → None ≡ power_of re im
  unfolding power_of all_finite
  power_no h = rw (last_no (finite_of (float_of re)) (finite_of (float_of im)) (finite_of (squares (float_of re) (float_of im))) (rw is at h))

-- ---- there is no power exactly where a part or the power is not finite

pub none_why : (re im : ℕ) → power_of re im ≡ None → all_finite (float_of re) (float_of im) ≡ false
unfolding power_of
none_why re im e = go (all_finite (float_of re) (float_of im)) e
  where
    go : (b : Bool) → pick b (Some (to_bits binary32 (squares (float_of re) (float_of im)))) None ≡ None → b ≡ false
    go true e = cc
    go false e = refl

pub why_none : (re im : ℕ) → all_finite (float_of re) (float_of im) ≡ false → power_of re im ≡ None
unfolding power_of
why_none re im h = simp h
