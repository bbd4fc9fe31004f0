-- What is said of a sample that lies within the bytes stays so for any further bytes: none of its bytes changes.
use Prim.Native.Nat.{ℕ, ◌+◌, ◌*◌, ◌≤◌}
use mathlib.Core.Path.{◌≡◌, refl, ap, ap₂, subst}
use mathlib.Core.List.{List, ◌++◌}
use mathlib.Core.Bool.{Bool, true, false}
use native.Mathlib.Omega.{arith}
use lib.Dec.{ltb}
use lib.ListN.{length, get_or-append}
use borrow.Author.Tests.{ltb-true}
use Rattle.words.specs.Tests.{pick}
use Rattle.words.specs.Words.{two_at, four_at}
use Rattle.words.specs.Answer.{bare_refusal}
use Rattle.floats.specs.Floats.{power_of}
use Rattle.std.specs.Prelude.{Ok, Err}
use Rattle.lines.specs.declared.Shown.{Shown}
use Rattle.lines.specs.declared.Unshown.TheVariants.{Refused}
use Rattle.samples.specs.declared.Sample.{Sample}
use Rattle.samples.specs.declared.Sample.TheVariants.{Count, Complex}
use Rattle.samples.specs.declared.Pattern.{Pattern}
use Rattle.samples.specs.Samples.{Patterned, Powered, is_complex, group_of, place_in, pattern_at, stands_at, patterned_by, on_power, power_at, powered_by}
use Rattle.samples.proofs.PlaceLaws.{sample_inside, group_complex}

module _ (bs more : List ℕ) where
  two_stays : (at : ℕ) → at + 2 ≤ length bs → two_at (bs ++ more) at ≡ two_at bs at
  unfolding two_at
  two_stays at h =
      ap₂ (λ (a b : ℕ). a * 256 + b) (get_or-append bs more 0 at (omega arith)) (get_or-append bs more 0 (at + 1) (omega arith))

  pub four_stays : (at : ℕ) → at + 4 ≤ length bs → four_at (bs ++ more) at ≡ four_at bs at
  unfolding four_at
  four_stays at h = ap₂ (λ (a b : ℕ). a * 65536 + b) (two_stays at (omega arith)) (two_stays (at + 2) (omega arith))

  pattern_stays : (at : ℕ) → at + 8 ≤ length bs → pattern_at (bs ++ more) at ≡ pattern_at bs at
  pattern_stays at h = rw (four_stays at (omega arith), four_stays (at + 4) (omega arith))

  stands_stays : (sort at : ℕ) → at + group_of sort ≤ length bs → stands_at sort (bs ++ more) at ≡ stands_at sort bs at
  stands_stays sort at h = go (is_complex sort) h
    where
      go : (b : Bool) → at + pick b 8 2 ≤ length bs
          → pick b (Complex (pattern_at (bs ++ more) at).re (pattern_at (bs ++ more) at).im) (Count (two_at (bs ++ more) at))
          ≡ pick b (Complex (pattern_at bs at).re (pattern_at bs at).im) (Count (two_at bs at))
      go true h = ap (λ (p : Pattern). Complex p.re p.im) (pattern_stays at h)
      go false h = ap Count (two_stays at h)

  module _ (x : Shown) (sort i : ℕ) (within : x.start + group_of sort * x.count ≤ length bs) where
    -- what stands at a sample's place, 36 included
    pub sample_stays : patterned_by (Ok x) sort (bs ++ more) i ≡ patterned_by (Ok x) sort bs i
    sample_stays = go (ltb i x.count) refl
      where
        go : (b : Bool) → ltb i x.count ≡ b
            → ◌≡◌ {A = Patterned} (pick b (Ok (stands_at sort (bs ++ more) (place_in x.start sort i))) (Err (Refused (bare_refusal 36))))
            (pick b (Ok (stands_at sort bs (place_in x.start sort i))) (Err (Refused (bare_refusal 36))))
        go true e =
            ap (λ (y : Sample ℕ). Ok y)
            (stands_stays sort (place_in x.start sort i) (sample_inside bs x.start x.count sort i within (ltb-true i x.count e)))
        go false e = refl

    -- a power, and its refusals 23, 36 and 24
    pub power_stays : powered_by (Ok x) sort (bs ++ more) i ≡ powered_by (Ok x) sort bs i
    power_stays = go (is_complex sort) (ltb i x.count) refl refl
      where
        go : (a b : Bool) → is_complex sort ≡ a → ltb i x.count ≡ b
            → ◌≡◌ {A = Powered}
            (pick a (pick b (power_at (bs ++ more) (place_in x.start sort i)) (Err (Refused (bare_refusal 36)))) (Err (Refused (bare_refusal 23))))
            (pick a (pick b (power_at bs (place_in x.start sort i)) (Err (Refused (bare_refusal 36)))) (Err (Refused (bare_refusal 23))))
        go true true k e =
            let h : place_in x.start sort i + group_of sort ≤ length bs = sample_inside bs x.start x.count sort i within (ltb-true i x.count e) in
            ap (λ (p : Pattern). on_power (power_of p.re p.im))
            (pattern_stays (place_in x.start sort i) (subst (λ (g : ℕ). place_in x.start sort i + g ≤ length bs) (group_complex sort k) h))
        go true false k e = refl
        go false b k e = refl
