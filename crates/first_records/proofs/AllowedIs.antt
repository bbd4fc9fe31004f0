-- `allowed_is`: the state rule's tests of a plan hold exactly where the plan is allowed, test by test; a leader's rows by one law over the row.
use Prim.Native.Nat.{ℕ, zero, suc, ◌+◌, ◌*◌, ◌≤◌, ◌<◌}
use mathlib.Core.Path.{◌≡◌, refl, sym, ap, ◌∙◌, subst}
use mathlib.Core.List.{List, [], ◌∷◌}
use mathlib.Core.Bool.{Bool, true}
use mathlib.Core.Logic.{◌↔◌}
use native.Mathlib.Omega.{arith}
use native.Mathlib.Nat.{zero-add}
use lib.Dec.{eqb, leb}
use lib.ListN.{get_or, get_or-replicate}
use lib.Seq.{get_or-drop}
use borrow.Author.Tests.{eq-eqb, eqb-true, le-leb, leb-true, ne_eqb}
use Rattle.words.specs.Tests.{pick, both_of, within_of}
use Rattle.words.proofs.Laws.{both_l, both_r, both_make, within_true, true_within}
use Rattle.plan.specs.Tables.{rows, slot, slots, slot_of, facility, last_sort}
use Rattle.plan.specs.Plan.{group_of, ahead_of, all_zero, slots_zero?, image_zero?, zero_plan?}
use Rattle.plan.specs.Plan.{slot_good, slots_good, volume_good, leader_good, image_good, plan_good}
use Rattle.plan.specs.declared.Plan.{Plan}
use Rattle.plan.specs.declared.Slot.{Slot}
use Rattle.plan.proofs.Bounds.{zero_each, slot_each}
use Rattle.bodies.proofs.Named.{slot_good_lem, slots_good_lem}
use Rattle.promises.specs.Rules.{Kind, volume, leader, image, trailer, kind_number}
use Rattle.promises.proofs.Sorts.{group_same, ahead_same}
use Rattle.first_records.specs.Allowed.{Within, Row, RowOf, NoRows, NoLines, AllowedVolume, AllowedLeader, AllowedImage, Zeros, Allowed}

-- both tests, and both facts
both_is : {a b : Bool} {A B : Type 0} → (a ≡ true) ↔ A → (b ≡ true) ↔ B → (both_of a b ≡ true) ↔ (A × B)
both_is {a} {b} f g = (λ e. (f.0 (both_l a b e), g.0 (both_r a b e)), λ h. both_make a b (f.1 h.0) (g.1 h.1))

equal_is : (x y : ℕ) → (eqb x y ≡ true) ↔ (x ≡ y)
equal_is x y = (eqb-true x y, eq-eqb x y)

most_is : (x y : ℕ) → (leb x y ≡ true) ↔ (x ≤ y)
most_is x y = (leb-true x y, le-leb x y)

within_is : (lo x hi : ℕ) → (within_of lo x hi ≡ true) ↔ Within lo hi x
within_is lo x hi = (
  λ e. let h = within_true lo x hi e in record { low = h.0; high = h.1 },
  λ h. true_within lo x hi h.low h.high,
)

-- ---- numbers that are 0

zeros_from : (l : List ℕ) → ((i : ℕ) → get_or l i 0 ≡ 0) → all_zero l ≡ true
unfolding all_zero
zeros_from [] h = refl
zeros_from (x ∷ xs) h = both_make _ _ (eq-eqb x 0 (h 0)) (zeros_from xs (λ i. h (suc i)))

zeros_is : (l : List ℕ) → (all_zero l ≡ true) ↔ ((i : ℕ) → get_or l i 0 ≡ 0)
zeros_is l = (zero_each l, zeros_from l)

module _ (p : Plan) where
  rows_is : (slots_zero? p ≡ true) ↔ NoRows p
  rows_is =
      let b = both_is (zeros_is p.counts) (zeros_is p.lengths) in
      (λ e. let h = b.0 e in record { counts = h.0; lengths = h.1 }, λ h. b.1 (h.counts, h.lengths))

  lines_is : (image_zero? p ≡ true) ↔ NoLines p
  lines_is =
      let b = both_is (equal_is p.n 0) (both_is (equal_is p.l 0) (both_is (equal_is p.w 0) (both_is (equal_is p.d 0)
      (both_is (equal_is p.s 0) (equal_is p.sort 0))))) in (
        λ e. let h = b.0 e in record { n = h.0; l = h.1.0; w = h.1.1.0; d = h.1.1.1.0; s = h.1.1.1.1.0; sort = h.1.1.1.1.1 },
        λ h. b.1 (h.n, (h.l, (h.w, (h.d, (h.s, h.sort))))),
      )

-- ---- a leader's rows

row_is : (i c l : ℕ) → (slot_good i c l ≡ true) ↔ Row (slot_of i).least (slot_of i).most (slot_of i).shortest (slot_of i).longest c l
row_is i c l = (to, λ r. slot_good_lem i c l (r.counted.low, r.counted.high) r.none (λ z. let b = r.some (omega arith) in (b.low, b.high)))
  where
    to : slot_good i c l ≡ true → Row (slot_of i).least (slot_of i).most (slot_of i).shortest (slot_of i).longest c l
    to e =
        let t = both_r (within_of (slot_of i).least c (slot_of i).most) _ e in
        record {
          counted = (within_is (slot_of i).least c (slot_of i).most).0 (both_l _ _ e);
          none = λ z. eqb-true l 0 (subst (λ (b : Bool). pick b (eqb l 0) (within_of (slot_of i).shortest l (slot_of i).longest) ≡ true) (eq-eqb c 0 z) t);
          some =
              λ h.
              (within_is (slot_of i).shortest l (slot_of i).longest).0
              (subst (λ (b : Bool). pick b (eqb l 0) (within_of (slot_of i).shortest l (slot_of i).longest) ≡ true) (ne_eqb c 0 (λ z. omega arith)) t);
        }

-- the slot of facility row i
facility_row : (i : ℕ) → i < 11 → slot_of (6 + i) ≡ facility
unfolding slot_of
facility_row i h = sym (get_or-drop 6 slots i (slot 0 0 0 0 0)) ∙ get_or-replicate 11 i facility (slot 0 0 0 0 0) h

-- a property of every row: of the six slots, and of the facility rows
by_row : (P : ℕ → Type 0) → P 0 → P 1 → P 2 → P 3 → P 4 → P 5 → ((i : ℕ) → i < 11 → P (6 + i)) → (i : ℕ) → i < rows → P i
by_row P a b c d e f g zero h = a
by_row P a b c d e f g (suc zero) h = b
by_row P a b c d e f g (suc (suc zero)) h = c
by_row P a b c d e f g (suc (suc (suc zero))) h = d
by_row P a b c d e f g (suc (suc (suc (suc zero)))) h = e
by_row P a b c d e f g (suc (suc (suc (suc (suc zero))))) h = f
by_row P a b c d e f g (suc (suc (suc (suc (suc (suc i)))))) h =
    subst P (let q : 6 + i ≡ suc (suc (suc (suc (suc (suc i))))) = omega arith in q) (g i (omega arith))

module _ (p : Plan) where
  abbrev Good : ℕ → Type 0
  Good i = slot_good i (get_or p.counts i 0) (get_or p.lengths i 0) ≡ true

  -- row i under the ranges of a slot
  abbrev Ranged : ℕ → Slot → Type 0
  Ranged i s = RowOf p i s.least s.most s.shortest s.longest

  each_row : (slots_good 0 rows p.counts p.lengths ≡ true) ↔ ((i : ℕ) → i < rows → Good i)
  each_row = (
    λ e i h. subst Good (zero-add i) (slot_each 0 rows p.counts p.lengths e i h),
    λ f. slots_good_lem 0 rows p.counts p.lengths (λ k l u. f k u),
  )

  ranged : (i : ℕ) → Good i ↔ Ranged i (slot_of i)
  ranged i = row_is i (get_or p.counts i 0) (get_or p.lengths i 0)

  volume_is : (volume_good p ≡ true) ↔ AllowedVolume p
  unfolding volume_good
  volume_is =
      let b = both_is (within_is 3 p.pointers 6) (both_is (rows_is p) (lines_is p)) in (
        λ e. let h = b.0 e in record { pointers = h.0; rows = h.1.0; lines = h.1.1 },
        λ a. b.1 (a.pointers, (a.rows, a.lines)),
      )

  leader_is : (leader_good p ≡ true) ↔ AllowedLeader p
  unfolding leader_good slot_of
  leader_is =
      let b = both_is (equal_is p.pointers 0) (both_is each_row (lines_is p)) in (
        λ e.
            let h = b.0 e in
            let row : (i : ℕ) → i < rows → Ranged i (slot_of i) = λ i l. (ranged i).0 (h.1.0 i l) in
            record {
              pointers = h.0;
              slot1 = row 0 (omega arith);
              slot2 = row 1 (omega arith);
              slot3 = row 2 (omega arith);
              slot4 = row 3 (omega arith);
              slot5 = row 4 (omega arith);
              slot7 = row 5 (omega arith);
              facilities = λ i l. subst (Ranged (6 + i)) (facility_row i l) (row (6 + i) (omega arith));
              lines = h.1.1;
            },
        λ a. b.1 (
          a.pointers,
          (
            by_row Good ((ranged 0).1 a.slot1) ((ranged 1).1 a.slot2) ((ranged 2).1 a.slot3) ((ranged 3).1 a.slot4) ((ranged 4).1 a.slot5)
                ((ranged 5).1 a.slot7) (λ i l. (ranged (6 + i)).1 (subst (Ranged (6 + i)) (sym (facility_row i l)) (a.facilities i l))),
            a.lines,
          ),
        ),
      )

  image_is : (image_good p ≡ true) ↔ AllowedImage p
  unfolding image_good
  image_is =
      let ranges = both_is (within_is 1 p.n 999999) (both_is (within_is 1 p.l 999999) (both_is (within_is 1 p.w 99999999)
      (both_is (within_is 1 p.d 99999999) (both_is (within_is 0 p.s 9999) (within_is 0 p.sort last_sort))))) in
      let b = both_is (both_is (equal_is p.pointers 0) (rows_is p))
      (both_is ranges (both_is (equal_is p.d (group_of p * p.w)) (most_is (ahead_of p + p.d + p.s) p.l))) in (
        λ e.
            let h = b.0 e in
            let g = h.1.0 in
            record {
              pointers = h.0.0;
              rows = h.0.1;
              n = g.0;
              L = g.1.0;
              w = g.1.1.0;
              d = g.1.1.1.0;
              s = g.1.1.1.1.0;
              sort = g.1.1.1.1.1;
              paired = h.1.1.0 ∙ ap (λ (i : ℕ). i * p.w) (group_same p.sort);
              room = omega (arith, h.1.1.1, ahead_same p.sort);
            },
        λ a. b.1 (
          (a.pointers, a.rows),
          (
            (a.n, (a.L, (a.w, (a.d, (a.s, a.sort))))),
            (a.paired ∙ ap (λ (i : ℕ). i * p.w) (sym (group_same p.sort)), omega (arith, a.room, ahead_same p.sort)),
          ),
        ),
      )

  pub zeros_are : (zero_plan? p ≡ true) ↔ Zeros p
  unfolding zero_plan?
  zeros_are =
      let b = both_is (equal_is p.pointers 0) (both_is (rows_is p) (lines_is p)) in (
        λ e. let h = b.0 e in record { pointers = h.0; rows = h.1.0; lines = h.1.1 },
        λ a. b.1 (a.pointers, (a.rows, a.lines)),
      )

-- the state rule's part on plans, in plain words
pub allowed_is : (kind : Kind) (p : Plan) → (plan_good (kind_number kind) p ≡ true) ↔ Allowed kind p
unfolding plan_good
allowed_is volume p = volume_is p
allowed_is leader p = leader_is p
allowed_is image p = image_is p
allowed_is trailer p = zeros_are p
