-- The row copy of a line that stands there is its samples, each the one the rules name, and the old row behind them; on any other answer the row stays.
use Prim.Native.Nat.{ℕ, zero, suc, ◌+◌, ◌-◌, ◌*◌, ◌≤◌, ◌<◌}
use mathlib.Core.Path.{◌≡◌, refl, sym, ap, ◌∙◌}
use mathlib.Core.List.{List, ◌++◌}
use mathlib.Core.Bool.{Bool, true, false}
use native.Mathlib.Omega.{arith}
use native.Mathlib.Nat.{zero-add}
use lib.Dec.{ltb}
use lib.ListN.{length, get_or, take, drop, length-append, length-drop, get_or-append}
use lib.Seq.{get_or-drop, get_or-append-add}
use borrow.Author.Tests.{ne_eqb}
use Rattle.std.specs.Prelude.{Ok, Err}
use Rattle.words.specs.Words.{two_at}
use Rattle.words.specs.Answer.{bare_refusal}
use Rattle.words.specs.Tests.{pick}
use Rattle.plan.specs.declared.Plan.{Plan}
use Rattle.lines.specs.View.{view_of, sort_seen, sorted_of, shown_bytes, View}
use Rattle.copies.specs.Row.{samples, copied_by, row_by, copied_of, row_of}
use Rattle.copies.proofs.RowLaws.{length_samples, sample_at_lem, copy_sort, copy_done, copy_short}
use Rattle.lines.specs.declared.Unshown.TheVariants as unshown
use Rattle.promises.specs.Rules.{sort_of}
use Rattle.promises.specs.Shown.{line_record, Stands, data_count, bytes_of, data_start, data_pixels, sample}
use Rattle.promises.specs.Demands.{Copies, Keeps, copier}
use Rattle.promises.proofs.LineNamed.{stands_shown, stands_room, whole_pixels, sort_seen_lem}

module _ (bs : List ℕ) (k : ℕ) (p : Plan) (row : List ℕ) (t : Stands bs k p) where
  -- 23 where the samples are no counts, and the row stays
  pub wrong_sort : (p.sort ≡ 0 → ⊥) → (copied_of bs k (length row) ≡ Err (unshown.Refused (bare_refusal 23))) × (row_of bs k row ≡ row)
  wrong_sort n =
      let q = copy_sort bs k row (sorted_of bs k) refl _ (stands_shown bs k p t) (λ e. n (sym (sort_seen_lem bs p t.first) ∙ e)) in (sym q.0, sym q.1)

  module _ (counts : p.sort ≡ 0) where
    two : bytes_of p ≡ 2
    two = ap (λ (i : ℕ). (sort_of i).group) counts

    seen_counts : sort_seen bs ≡ 0
    seen_counts = sort_seen_lem bs p t.first ∙ counts

    pixels_are : data_pixels p (line_record p k bs) ≡ take (2 * data_count (line_record p k bs)) (drop (data_start p k (line_record p k bs)) bs)
    pixels_are =
        sym (whole_pixels bs k p t.first.paired (stands_room bs k p t) t.line)
        ∙ ap (λ (i : ℕ). take (i * data_count (line_record p k bs)) (drop (data_start p k (line_record p k bs)) bs)) two

    -- the answer, and the row: the samples, then the old row
    pub row_named : data_count (line_record p k bs) ≤ length row
        → (copied_of bs k (length row) ≡ Ok (data_count (line_record p k bs)))
        × (row_of bs k row ≡ samples (data_count (line_record p k bs)) (data_pixels p (line_record p k bs)) ++ drop (data_count (line_record p k bs)) row)
    row_named h =
        let q = copy_done bs k row (sorted_of bs k) refl _ (stands_shown bs k p t) seen_counts h (data_pixels p (line_record p k bs)) pixels_are in
        (sym q.0, sym q.1)

    -- 15 where the row is shorter than the line's data pixels, and it stays
    pub short_row : length row < data_count (line_record p k bs)
        → (copied_of bs k (length row) ≡ Err (unshown.Refused (bare_refusal 15))) × (row_of bs k row ≡ row)
    short_row h = let q = copy_short bs k row (sorted_of bs k) refl _ (stands_shown bs k p t) seen_counts h in (sym q.0, sym q.1)

sample_is : (px : List ℕ) (j : ℕ) → two_at px (2 * (0 + j)) ≡ sample px j
unfolding two_at
sample_is px j = rw zero-add (omega arith)

module _ (n : ℕ) (px row : List ℕ) where
  written_at : (j : ℕ) → j < n → get_or (samples n px ++ drop n row) j 0 ≡ sample px j
  written_at j l = get_or-append (samples n px) (drop n row) 0 j (let e = length_samples 0 n px in omega arith) ∙ sample_at_lem 0 n j px l ∙ sample_is px j

  kept_at : (j : ℕ) → n ≤ j → get_or (samples n px ++ drop n row) j 0 ≡ get_or row j 0
  kept_at j l =
      let a = length_samples 0 n px in
      let e : j ≡ length (samples n px) + (j - n) = omega arith in
      let f : n + (j - n) ≡ j = omega arith in
      ap (λ (i : ℕ). get_or (samples n px ++ drop n row) i 0) e
      ∙ get_or-append-add (samples n px) (drop n row) (j - n) 0
      ∙ get_or-drop n row (j - n) 0
      ∙ ap (λ (i : ℕ). get_or row i 0) f

  row_length : n ≤ length row → length (samples n px ++ drop n row) ≡ length row
  row_length h = length-append (samples n px) (drop n row) ∙ (let a = length_samples 0 n px in let b = length-drop n row in omega arith)

-- sample j is 256 times the high byte and the low byte; later samples stay
pub sample_named : Copies copier
sample_named bs k p row t counts h =
    let q = row_named bs k p row t counts h in
    let n = data_count (line_record p k bs) in
    let px = data_pixels p (line_record p k bs) in (
      q.0,
      (λ j l. ap (λ (x : List ℕ). get_or x j 0) q.1 ∙ written_at n px row j l),
      (λ j l. ap (λ (x : List ℕ). get_or x j 0) q.1 ∙ kept_at n px row j l),
      ap length q.1 ∙ row_length n px row h,
    )

-- on a wait or a refusal every sample stays
pub row_kept : Keeps copier
unfolding copied_of row_of
row_kept bs k row h = go (view_of bs k) (sort_seen bs) h
  where
    pick-kept : (b : Bool) (x : List ℕ) → (b ≡ false → ⊥) → pick b row x ≡ row
    pick-kept true x n = refl
    pick-kept false x n = absurd (n refl)

    go : (v : View) (sort : ℕ) → ((n : ℕ) → copied_by v sort (length row) ≡ Ok n → ⊥) → row_by v sort bs row ≡ row
    go (Ok x) zero h =
        pick-kept (ltb (length row) x.count) (samples x.count (shown_bytes 2 (Ok x) bs) ++ drop x.count row)
        (λ e. h x.count (ap (λ (b : Bool). pick b (Err (unshown.Refused (bare_refusal 15))) (Ok x.count)) e))
    go (Ok x) (suc i) h = simp (ne_eqb (suc i) 0 (λ e. omega arith))
    go (Err x) sort h = refl
