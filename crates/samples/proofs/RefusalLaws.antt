-- Which refusal a sample or a power of a shown line gets, and exactly when: by the tests of the definition in their order.
use Prim.Native.Nat.{ℕ, ◌+◌, ◌≤◌, ◌<◌}
use mathlib.Core.Path.{◌≡◌, refl, ap, ◌∙◌}
use mathlib.Core.List.{List}
use mathlib.Core.Logic.{◌⊎◌, inl, inr}
use mathlib.Core.Bool.{Bool, true, false}
use lib.Dec.{ltb}
use borrow.Author.Tests.{lt-ltb, ltb-true, ltb-false}
use Rattle.words.specs.Tests.{pick}
use Rattle.words.specs.Words.{four_at}
use Rattle.words.specs.Answer.{bare_refusal}
use Rattle.words.specs.declared.Refusal.{Refusal}
use Rattle.floats.specs.Floats.{float_of, all_finite, power_of}
use Rattle.floats.proofs.Laws.{none_why, why_none}
use Rattle.std.specs.Prelude.{Option, Some, None, Ok, Err}
use Rattle.lines.specs.declared.Shown.{Shown}
use Rattle.lines.specs.declared.Unshown.TheVariants.{Refused}
use Rattle.samples.specs.Samples.{Patterned, Powered, is_complex, place_in, stands_at, patterned_by, on_power, power_at, powered_by}

module _ (x : Shown) (sort : ℕ) (bs : List ℕ) (i : ℕ) (r : Refusal) where
  -- a sample of a shown line: 36 alone, and only outside the line's data pixels
  pub sample_refusal : patterned_by (Ok x) sort bs i ≡ Err (Refused r) → (x.count ≤ i) × (r ≡ bare_refusal 36)
  sample_refusal e = go (ltb i x.count) refl e
    where
      go : (b : Bool) → ltb i x.count ≡ b
          → ◌≡◌ {A = Patterned} (pick b (Ok (stands_at sort bs (place_in x.start sort i))) (Err (Refused (bare_refusal 36)))) (Err (Refused r))
          → (x.count ≤ i) × (r ≡ bare_refusal 36)
      go true h e = cc
      go false h e = (ltb-false i x.count h, cc)

  -- a power of a shown line: 23 for counts; else 36 outside the line's data pixels; else 24 where a part or the power is not finite
  pub power_refusal : powered_by (Ok x) sort bs i ≡ Err (Refused r)
      → ((is_complex sort ≡ false) × (r ≡ bare_refusal 23))
      ⊎ (((is_complex sort ≡ true) × (x.count ≤ i) × (r ≡ bare_refusal 36))
      ⊎ ((is_complex sort ≡ true)
      × (i < x.count)
      × (all_finite (float_of (four_at bs (place_in x.start sort i))) (float_of (four_at bs (place_in x.start sort i + 4))) ≡ false)
      × (r ≡ bare_refusal 24)))
  power_refusal e = go (is_complex sort) (ltb i x.count) (power_of re im) refl refl refl e
    where
      re : ℕ
      re = four_at bs (place_in x.start sort i)

      im : ℕ
      im = four_at bs (place_in x.start sort i + 4)

      go : (a b : Bool) (w : Option ℕ) → is_complex sort ≡ a → ltb i x.count ≡ b → power_of re im ≡ w
          → ◌≡◌ {A = Powered} (pick a (pick b (on_power w) (Err (Refused (bare_refusal 36)))) (Err (Refused (bare_refusal 23)))) (Err (Refused r))
          → ((is_complex sort ≡ false) × (r ≡ bare_refusal 23))
          ⊎ (((is_complex sort ≡ true) × (x.count ≤ i) × (r ≡ bare_refusal 36))
          ⊎ ((is_complex sort ≡ true) × (i < x.count) × (all_finite (float_of re) (float_of im) ≡ false) × (r ≡ bare_refusal 24)))
      go false b w ea eb ew e = inl (ea, cc)
      go true false w ea eb ew e = inr (inl (ea, ltb-false i x.count eb, cc))
      go true true (Some n) ea eb ew e = cc
      go true true None ea eb ew e = inr (inr (ea, ltb-true i x.count eb, none_why re im ew, cc))

-- and back: 24 where a part or the power is not finite
pub power_none : (x : Shown) (sort : ℕ) (bs : List ℕ) (i : ℕ) → is_complex sort ≡ true → i < x.count
    → all_finite (float_of (four_at bs (place_in x.start sort i))) (float_of (four_at bs (place_in x.start sort i + 4))) ≡ false
    → powered_by (Ok x) sort bs i ≡ Err (Refused (bare_refusal 24))
power_none x sort bs i k h f =
    ap (λ (b : Bool). pick b (pick (ltb i x.count) (power_at bs (place_in x.start sort i)) outside) counts) k
    ∙ ap (λ (b : Bool). pick b (power_at bs (place_in x.start sort i)) outside) (lt-ltb i x.count h)
    ∙ ap on_power (why_none (four_at bs (place_in x.start sort i)) (four_at bs (place_in x.start sort i + 4)) f)
  where
    outside : Powered
    outside = Err (Refused (bare_refusal 36))

    counts : Powered
    counts = Err (Refused (bare_refusal 23))
