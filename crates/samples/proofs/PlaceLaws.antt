-- Where a sample stands: a place behind the bytes is clipped to their end, and reads the same there.
use Prim.Native.Nat.{ℕ, ◌+◌, ◌*◌, ◌≤◌, ◌<◌}
use mathlib.Core.Path.{◌≡◌, refl, ap, ◌∙◌}
use mathlib.Core.List.{List}
use mathlib.Core.Bool.{Bool, true, false}
use native.Mathlib.Omega.{arith}
use lib.Dec.{ltb}
use lib.ListN.{length}
use borrow.Author.Tests.{ltb-false}
use Rattle.words.specs.Tests.{pick}
use Rattle.words.specs.Words.{two_at}
use Rattle.words.proofs.Laws.{two_none, four_none}
use Rattle.samples.specs.declared.Pattern.{Pattern}
use Rattle.samples.specs.declared.Sample.TheVariants.{Count, Complex}
use Rattle.samples.specs.Samples.{is_complex, group_of, place_in, clipped, pattern_at, stands_at}

-- ---- bytes a sample

pub group_complex : (sort : ℕ) → is_complex sort ≡ true → group_of sort ≡ 8
group_complex sort e = ap (λ (b : Bool). pick b 8 2) e

-- ---- what stands at the clipped place

module _ (bs : List ℕ) (at : ℕ) where
  pub pattern_clipped : pattern_at bs (clipped (length bs) at) ≡ pattern_at bs at
  pattern_clipped = go (ltb at (length bs)) refl
    where
      go : (b : Bool) → ltb at (length bs) ≡ b → pattern_at bs (pick b at (length bs)) ≡ pattern_at bs at
      go true e = refl
      go false e =
          let h : length bs ≤ at = ltb-false at (length bs) e in
          rw (
            four_none bs (length bs) (omega arith),
            four_none bs (length bs + 4) (omega arith),
            four_none bs at h,
            four_none bs (at + 4) (omega arith),
          )

  count_clipped : two_at bs (clipped (length bs) at) ≡ two_at bs at
  count_clipped = go (ltb at (length bs)) refl
    where
      go : (b : Bool) → ltb at (length bs) ≡ b → two_at bs (pick b at (length bs)) ≡ two_at bs at
      go true e = refl
      go false e = rw (two_none bs (length bs) (omega arith), two_none bs at (ltb-false at (length bs) e))

  pub stands_clipped : (sort : ℕ) → stands_at sort bs (clipped (length bs) at) ≡ stands_at sort bs at
  stands_clipped sort =
      ap (λ (p : Pattern). pick (is_complex sort) (Complex p.re p.im) (Count (two_at bs (clipped (length bs) at)))) pattern_clipped
      ∙ ap (λ (n : ℕ). pick (is_complex sort) (Complex (pattern_at bs at).re (pattern_at bs at).im) (Count n)) count_clipped

-- ---- where the line's data pixels lie within the bytes, each sample does: no byte of it is made up

pub sample_inside : (bs : List ℕ) (start count sort i : ℕ) → start + group_of sort * count ≤ length bs → i < count
    → place_in start sort i + group_of sort ≤ length bs
sample_inside bs start count sort i h l = go (is_complex sort) h
  where
    go : (b : Bool) → start + pick b 8 2 * count ≤ length bs → start + pick b 8 2 * i + pick b 8 2 ≤ length bs
    go true h = omega arith
    go false h = omega arith
