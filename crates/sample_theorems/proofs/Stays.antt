-- More bytes never alter what is said of a sample, of its power or of a complex row, if it was no wait: the line view and its sort stay, and the data
-- pixels of a line that is shown lie within the bytes.
use Prim.Native.Nat.{ℕ, zero, suc, ◌+◌, ◌*◌, ◌≤◌}
use mathlib.Core.Path.{◌≡◌, refl, sym, ap, ap₂, ◌∙◌, subst}
use mathlib.Core.List.{List, ◌++◌}
use mathlib.Core.Bool.{Bool, true, false}
use native.Mathlib.Omega.{arith}
use lib.ListN.{length}
use Rattle.plan.specs.Tables.{sort_of}
use Rattle.std.specs.Prelude.{Ok, Err}
use Rattle.lines.specs.View.{View, view_of, sort_seen}
use Rattle.lines.specs.declared.Shown.{Shown}
use Rattle.lines.specs.declared.Unshown.TheVariants.{Wait}
use Rattle.lines.proofs.InsideLaws.{shown_within}
use Rattle.samples.specs.Samples.{is_complex, group_of, patterned_by, powered_by}
use Rattle.samples.specs.Asked.{pattern_of, power_of}
use Rattle.samples.proofs.PlaceLaws.{group_complex}
use Rattle.samples.proofs.StayLaws as stays
use Rattle.complex_rows.specs.Parts.{parts_copied_by, parts_row_by, parts_copied, parts_row}
use Rattle.complex_rows.proofs.PartLaws.{row_stays, row_counts}
use Rattle.promises.proofs.LineNamed.{line_named, sort_seen_lem}
use Rattle.promises.proofs.LineStays.{line_stays, sort_stays}

-- bytes a sample are those of the plan's table
group_is : (i : ℕ) → i ≤ 1 → group_of i ≡ (sort_of i).group
unfolding sort_of
group_is zero h = refl
group_is (suc zero) h = refl
group_is (suc (suc i)) h = absurd (omega arith)

module _ (bs ys : List ℕ) (k : ℕ) where
  -- the data pixels of a line that is shown lie within the bytes
  within : (x : Shown) → view_of bs k ≡ Ok x → x.start + group_of (sort_seen bs) * x.count ≤ length bs
  within x e =
      let (p, t, n) = (line_named bs k x.start x.count x.left).0 e in
      let known : sort_seen bs ≤ 1 = let a = t.first.known in omega (arith, sort_seen_lem bs p t.first) in
      subst (λ (g : ℕ). x.start + g * x.count ≤ length bs) (sym (group_is (sort_seen bs) known)) (shown_within bs k x.start x.count x.left e)

  pub sample_stays : (i : ℕ) → ((n : ℕ) → pattern_of bs k i ≡ Err (Wait n) → ⊥) → pattern_of (bs ++ ys) k i ≡ pattern_of bs k i
  unfolding pattern_of
  sample_stays i settled =
      let open-view : (n : ℕ) → view_of bs k ≡ Err (Wait n) → ⊥ = λ n e. settled n (ap (λ (v : View). patterned_by v (sort_seen bs) bs i) e) in
      ap₂ (λ (s : ℕ) (v : View). patterned_by v s (bs ++ ys) i) (sort_stays bs ys k open-view) (line_stays bs ys k open-view) ∙ go (view_of bs k) refl
    where
      go : (v : View) → view_of bs k ≡ v → patterned_by v (sort_seen bs) (bs ++ ys) i ≡ patterned_by v (sort_seen bs) bs i
      go (Ok x) e = stays.sample_stays bs ys x (sort_seen bs) i (within x e)
      go (Err x) e = refl

  pub power_stays : (i : ℕ) → ((n : ℕ) → power_of bs k i ≡ Err (Wait n) → ⊥) → power_of (bs ++ ys) k i ≡ power_of bs k i
  unfolding power_of
  power_stays i settled =
      let open-view : (n : ℕ) → view_of bs k ≡ Err (Wait n) → ⊥ = λ n e. settled n (ap (λ (v : View). powered_by v (sort_seen bs) bs i) e) in
      ap₂ (λ (s : ℕ) (v : View). powered_by v s (bs ++ ys) i) (sort_stays bs ys k open-view) (line_stays bs ys k open-view) ∙ go (view_of bs k) refl
    where
      go : (v : View) → view_of bs k ≡ v → powered_by v (sort_seen bs) (bs ++ ys) i ≡ powered_by v (sort_seen bs) bs i
      go (Ok x) e = stays.power_stays bs ys x (sort_seen bs) i (within x e)
      go (Err x) e = refl

  pub parts_stay : (row : List ℕ) → ((n : ℕ) → parts_copied bs k (length row) ≡ Err (Wait n) → ⊥)
      → (parts_copied (bs ++ ys) k (length row) ≡ parts_copied bs k (length row)) × (parts_row (bs ++ ys) k row ≡ parts_row bs k row)
  unfolding parts_copied parts_row
  parts_stay row settled =
      let open-view : (n : ℕ) → view_of bs k ≡ Err (Wait n) → ⊥ = λ n e. settled n (ap (λ (v : View). parts_copied_by v (sort_seen bs) (length row)) e) in
      let s = sort_stays bs ys k open-view in
      let h = line_stays bs ys k open-view in (
        ap₂ (λ (i : ℕ) (v : View). parts_copied_by v i (length row)) s h,
        ap₂ (λ (i : ℕ) (v : View). parts_row_by v i (bs ++ ys) row) s h ∙ go (view_of bs k) refl,
      )
    where
      shown : (x : Shown) → view_of bs k ≡ Ok x → (b : Bool) → is_complex (sort_seen bs) ≡ b
          → parts_row_by (Ok x) (sort_seen bs) (bs ++ ys) row ≡ parts_row_by (Ok x) (sort_seen bs) bs row
      shown x e true c =
          row_stays bs ys row x (sort_seen bs) (subst (λ (g : ℕ). x.start + g * x.count ≤ length bs) (group_complex (sort_seen bs) c) (within x e))
      shown x e false c = row_counts (bs ++ ys) row x (sort_seen bs) c ∙ sym (row_counts bs row x (sort_seen bs) c)

      go : (v : View) → view_of bs k ≡ v → parts_row_by v (sort_seen bs) (bs ++ ys) row ≡ parts_row_by v (sort_seen bs) bs row
      go (Ok x) e = shown x e (is_complex (sort_seen bs)) refl
      go (Err x) e = refl
