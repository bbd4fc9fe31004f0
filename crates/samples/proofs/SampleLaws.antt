-- A sample by what the view shows, one test at a time; and the bits that its floats keep.
use Prim.Native.Nat.{ℕ, ◌+◌, ◌≤◌, ◌<◌}
use mathlib.Core.Path.{◌≡◌, refl, sym, ap, ◌∙◌}
use mathlib.Core.List.{List}
use mathlib.Core.Bool.{Bool, true, false, not, false≢true}
use native.Mathlib.Omega.{arith}
use lib.Dec.{T, ltb}
use lib.ListN.{length}
use lib.Ieee.{binary32, nan_bits}
use borrow.Author.Tests.{lt-ltb, le-ltb}
use Rattle.words.specs.Tests.{pick}
use Rattle.words.specs.Words.{byte_at, two_at, four_at}
use Rattle.words.specs.Answer.{bare_refusal}
use Rattle.floats.specs.Floats.{power_of}
use Rattle.words.proofs.Laws.{both_l, both_r}
use Rattle.floats.proofs.Laws.{bits_kept}
use Rattle.std.specs.Prelude.{Ok, Err}
use Rattle.lines.specs.View.{View}
use Rattle.lines.specs.declared.Shown.{Shown}
use Rattle.lines.specs.declared.Unshown.{Unshown}
use Rattle.lines.specs.declared.Unshown.TheVariants.{Refused}
use Rattle.samples.specs.declared.Sample.{Sample}
use Rattle.samples.specs.declared.Sample.TheVariants.{Count, Complex}
use Rattle.samples.specs.declared.Pattern.{Pattern}
use Rattle.samples.specs.Samples.{Patterned, is_complex, clipped, place_in, pattern_at, stands_at, patterned_by, floats, floated, sampled_by}
use Rattle.samples.specs.Samples.{on_power, powered_by, bits_of, no_nan}
use Rattle.samples.specs.Said.{patterned_as, sampled_as}
use Rattle.samples.proofs.PlaceLaws.{pattern_clipped, stands_clipped}

-- ---- the view's own

module _ (v : View) (sort : ℕ) (bs : List ℕ) (i : ℕ) where
  pub pattern_unshown : (y : Unshown) → v ≡ Err y → Err y ≡ patterned_by v sort bs i
  pattern_unshown y e = sym (ap (λ (x : View). patterned_by x sort bs i) e)

  pub power_unshown : (y : Unshown) → v ≡ Err y → Err y ≡ powered_by v sort bs i
  power_unshown y e = sym (ap (λ (x : View). powered_by x sort bs i) e)

  -- ---- a line that is shown

  module _ (y : Shown) (e : v ≡ Ok y) where
    pub pattern_outside : y.count ≤ i → Err (Refused (bare_refusal 36)) ≡ patterned_by v sort bs i
    pattern_outside h = sym (ap (λ (x : View). patterned_by x sort bs i) e ∙ simp (le-ltb _ _ h))

    pub pattern_there : i < y.count → (at : ℕ) → at ≡ clipped (length bs) (place_in y.start sort i) → Ok (stands_at sort bs at) ≡ patterned_by v sort bs i
    pattern_there h at q =
        ap (λ (a : ℕ). Ok (stands_at sort bs a)) q
        ∙ ap (λ (s : Sample ℕ). Ok s) (stands_clipped bs (place_in y.start sort i) sort)
        ∙ sym (ap (λ (x : View). patterned_by x sort bs i) e ∙ simp (lt-ltb _ _ h))

    pub power_counts : is_complex sort ≡ false → Err (Refused (bare_refusal 23)) ≡ powered_by v sort bs i
    power_counts k = sym (ap (λ (x : View). powered_by x sort bs i) e ∙ simp k)

    pub power_outside : is_complex sort ≡ true → y.count ≤ i → Err (Refused (bare_refusal 36)) ≡ powered_by v sort bs i
    power_outside k h = sym (ap (λ (x : View). powered_by x sort bs i) e ∙ simp (k, le-ltb _ _ h))

    pub power_there : is_complex sort ≡ true → i < y.count → (at : ℕ) → at ≡ clipped (length bs) (place_in y.start sort i) → (p : Pattern)
        → p ≡ pattern_at bs at → on_power (power_of p.re p.im) ≡ powered_by v sort bs i
    power_there k h at q p is =
        ap (λ (x : Pattern). on_power (power_of x.re x.im))
        (is ∙ ap (λ (a : ℕ). pattern_at bs a) q ∙ pattern_clipped bs (place_in y.start sort i))
        ∙ sym (ap (λ (x : View). powered_by x sort bs i) e ∙ simp (k, lt-ltb _ _ h))

-- ---- bits kept

holds : (b : Bool) → b ≡ true → T b
holds true e = tt
holds false e = absurd (false≢true e)

module _ (bs : List ℕ) (bytes : (i : ℕ) → byte_at bs i < 256) where
  four_small : (at : ℕ) → four_at bs at < 4294967296
  unfolding four_at two_at
  four_small at = omega (arith, bytes at, bytes (at + 1), bytes (at + 2), bytes (at + 2 + 1))

  stands_kept : (sort at : ℕ) → no_nan (Ok (stands_at sort bs at)) ≡ true → bits_of (Ok (floats (stands_at sort bs at))) ≡ Ok (stands_at sort bs at)
  stands_kept sort at h = go (is_complex sort) h
    where
      there : Bool → Sample ℕ
      there b = pick b (Complex (four_at bs at) (four_at bs (at + 4))) (Count (two_at bs at))

      go : (b : Bool) → no_nan (Ok (there b)) ≡ true → ◌≡◌ {A = Patterned} (bits_of (Ok (floats (there b)))) (Ok (there b))
      go true h =
          let x : Bool = not (nan_bits binary32 (four_at bs at)) in
          let y : Bool = not (nan_bits binary32 (four_at bs (at + 4))) in
          let a : T x = holds x (both_l x y h) in
          let b : T y = holds y (both_r x y h) in
          rw (bits_kept (four_at bs at) (four_small at) a, bits_kept (four_at bs (at + 4)) (four_small (at + 4)) b)
      go false h = refl

  -- a sample's floats have the very patterns that stand in the file, unless one is a NaN's
  pub sample_kept : (v : View) (sort i : ℕ) → no_nan (patterned_by v sort bs i) ≡ true → bits_of (sampled_by v sort bs i) ≡ patterned_by v sort bs i
  unfolding sampled_by
  sample_kept (Ok x) sort i h = go (ltb i x.count) h
    where
      there : Bool → Patterned
      there b = pick b (Ok (stands_at sort bs (place_in x.start sort i))) (Err (Refused (bare_refusal 36)))

      go : (b : Bool) → no_nan (there b) ≡ true → bits_of (floated (there b)) ≡ there b
      go true h = stands_kept sort (place_in x.start sort i) h
      go false h = refl
  sample_kept (Err x) sort i h = refl

  -- so both readers say the same of it
  pub same_said : (v : View) (sort i : ℕ) → no_nan (patterned_by v sort bs i) ≡ true →
      sampled_as (sampled_by v sort bs i) ≡ patterned_as (patterned_by v sort bs i)
  same_said v sort i h = ap patterned_as (sample_kept v sort i h)
