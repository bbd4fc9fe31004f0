-- The row's start, sample by sample: samples one more at a time, each where it stands, and what a copy leaves of the row behind them.
use Prim.Native.Nat.{ℕ, zero, suc, ◌+◌, ◌*◌, ◌≤◌, ◌<◌}
use mathlib.Core.Path.{◌≡◌, refl, sym, ap, ◌∙◌, subst}
use mathlib.Core.List.{List, ◌++◌}
use native.Mathlib.Omega.{arith}
use native.Mathlib.Nat.{add-zero, zero-add}
use lib.ListN.{length, get_or, take, drop}
use Rattle.std.proofs.lemmas.List.{ext_get_or}
use borrow.Author.Tests.{lt-ltb, le-ltb, eq-eqb, ne_eqb}
use Rattle.words.specs.Words.{two_at}
use Rattle.words.specs.Answer.{bare_refusal}
use Rattle.plan.specs.Tables.{sort_of}
use Rattle.lines.specs.View.{View, sorted_of}
use Rattle.lines.specs.declared.Sorted.{Sorted}
use Rattle.lines.proofs.InsideLaws.{shown_within}
use Rattle.copies.specs.Row.{samples_from, samples, copied_by, row_by, copied_of, row_of}
use Rattle.lines.specs.declared.Shown.{Shown}
use Rattle.lines.specs.declared.Unshown.TheVariants.{Refused}
use Rattle.std.specs.Prelude.{Ok, Err}

pub length_samples : (j n : ℕ) (px : List ℕ) → length (samples_from j n px) ≡ n
unfolding samples_from
length_samples j zero px = refl
length_samples j (suc n) px = ap suc (length_samples (suc j) n px)

-- sample i of them
pub sample_at_lem : (j n i : ℕ) (px : List ℕ) → i < n → get_or (samples_from j n px) i 0 ≡ two_at px (2 * (j + i))
unfolding samples_from
sample_at_lem j zero i px h = absurd (omega arith)
sample_at_lem j (suc n) zero px h = ap (λ (i : ℕ). two_at px (2 * i)) (sym (add-zero j))
sample_at_lem j (suc n) (suc i) px h =
    sample_at_lem (suc j) n i px (omega arith) ∙ ap (λ (m : ℕ). two_at px (2 * m)) (let e : suc j + i ≡ j + suc i = omega arith in e)

-- numbers each of which is that sample are the samples
pub samples_are : (n : ℕ) (px row : List ℕ) → length row ≡ n → ((k : ℕ) → k < n → get_or row k 0 ≡ two_at px (2 * k)) → row ≡ samples n px
samples_are n px row long each =
    ext_get_or 0 row (samples n px) (long ∙ sym (length_samples 0 n px))
    (λ i h. let below : i < n = omega arith in
    each i below ∙ sym (sample_at_lem 0 n i px below ∙ ap (λ (m : ℕ). two_at px (2 * m)) (zero-add i)))

-- ---- the copy by what the view shows

-- the data pixels of counts, of two bytes each, lie within the bytes held
pub counts_within : (bs : List ℕ) (k : ℕ) (x : Sorted) → x ≡ sorted_of bs k → (y : Shown) → x.view ≡ Ok y → x.sort ≡ 0 → y.start + 2 * y.count ≤ length bs
unfolding sort_of
counts_within bs k x sees y e none =
    subst (λ (i : ℕ). y.start + (sort_of i).group * y.count ≤ length bs) (sym (ap (λ (z : Sorted). z.sort) sees) ∙ none)
    (shown_within bs k y.start y.count y.left (sym (ap (λ (z : Sorted). z.view) sees) ∙ e))

module _ (bs : List ℕ) (k : ℕ) (row : List ℕ) (x : Sorted) (sees : x ≡ sorted_of bs k) where
  copied_is : (v : View) → x.view ≡ v → copied_of bs k (length row) ≡ copied_by v x.sort (length row)
  unfolding copied_of
  copied_is v e =
      ap (λ (y : Sorted). copied_by y.view y.sort (length row)) (sym sees) ∙ ap (λ (y : View). copied_by y x.sort (length row)) e

  row_is : (v : View) → x.view ≡ v → row_of bs k row ≡ row_by v x.sort bs row
  unfolding row_of
  row_is v e = ap (λ (y : Sorted). row_by y.view y.sort bs row) (sym sees) ∙ ap (λ (y : View). row_by y x.sort bs row) e

  module _ (y : Shown) (e : x.view ≡ Ok y) where
    pub copy_sort : (x.sort ≡ 0 → ⊥) → (Err (Refused (bare_refusal 23)) ≡ copied_of bs k (length row)) × (row ≡ row_of bs k row)
    copy_sort n = (
      sym (copied_is _ e ∙ simp (ne_eqb x.sort 0 n)),
      sym (row_is _ e ∙ simp (ne_eqb x.sort 0 n)),
    )

    module _ (counts : x.sort ≡ 0) where
      pub copy_short : length row < y.count → (Err (Refused (bare_refusal 15)) ≡ copied_of bs k (length row)) × (row ≡ row_of bs k row)
      copy_short h = (
        sym (copied_is _ e ∙ simp (eq-eqb x.sort 0 counts, lt-ltb _ _ h)),
        sym (row_is _ e ∙ simp (eq-eqb x.sort 0 counts, lt-ltb _ _ h)),
      )

      pub copy_done : y.count ≤ length row → (px : List ℕ) → px ≡ take (2 * y.count) (drop y.start bs)
          → (Ok y.count ≡ copied_of bs k (length row)) × (samples y.count px ++ drop y.count row ≡ row_of bs k row)
      copy_done h px q = (
        sym (copied_is _ e ∙ simp (eq-eqb x.sort 0 counts, le-ltb _ _ h)),
        sym (row_is _ e ∙ simp (eq-eqb x.sort 0 counts, le-ltb _ _ h, q)),
      )
