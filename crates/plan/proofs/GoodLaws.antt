-- The plans that the rules allow, one step at a time: numbers that are all 0, slots one after the other, and the image's tests in any order.
use Prim.Native.Nat.{ℕ, zero, suc, ◌+◌, ◌-◌, ◌*◌, ◌≤◌, ◌<◌}
use mathlib.Core.Path.{◌≡◌, refl, sym, ap, ◌∙◌}
use mathlib.Core.List.{List, [], ◌∷◌}
use mathlib.Core.Bool.{Bool, true, false, false≢true}
use mathlib.Core.Logic.{⊎_elim}
use native.Mathlib.Omega.{arith}
use lib.Dec.{eqb, leb}
use lib.ListN.{length, get_or}
use borrow.Author.Tests.{eq-eqb, ne_eqb, eqb-true, leb-true}
use Rattle.words.specs.Tests.{both_of, within_of}
use Rattle.std.specs.Prelude.{IsTrue, ◌↔◌, All}
use Rattle.words.proofs.Laws.{both_l, both_r, both_make, cases, within_true}
use Rattle.plan.specs.Tables.{rows, slot_of, last_sort}
use Rattle.plan.specs.Plan.{volume, leader, image, trailer, group_of, ahead_of}
use Rattle.plan.specs.Plan.{all_zero, slots_zero?, slot_good, slots_good, volume_good, leader_good, image_good}
use Rattle.plan.specs.Plan.{image_ranges, image_agrees, zero_plan?, plan_good}
use Rattle.plan.specs.declared.Plan.{Plan}
use Rattle.plan.proofs.CodeLaws.{sort_ahead}

-- numbers that are all 0, one by one
zero_each : (l : List ℕ) → all_zero l ≡ true → All (λ x. x ≡ 0) l
unfolding all_zero
zero_each [] e k d h = absurd (omega arith)
zero_each (x ∷ xs) e zero d h = eqb-true x 0 (both_l (eqb x 0) (all_zero xs) e)
zero_each (x ∷ xs) e (suc k) d h = zero_each xs (both_r (eqb x 0) (all_zero xs) e) k d (omega arith)

zero_make : (l : List ℕ) → All (λ x. x ≡ 0) l → all_zero l ≡ true
unfolding all_zero
zero_make [] a = refl
zero_make (x ∷ xs) a = both_make (eqb x 0) (all_zero xs) (eq-eqb x 0 (a 0 0 (omega arith))) (zero_make xs (λ k d h. a (suc k) d (omega arith)))

pub zero_is : (b : Bool) (l : List ℕ) → IsTrue b ↔ All (λ x. x ≡ 0) l → b ≡ all_zero l
zero_is true l e = sym (zero_make l (e.0 refl))
zero_is false l e = ⊎_elim (λ h. absurd (false≢true (e.1 (zero_each l h)))) (λ h. sym h) (cases (all_zero l))

-- the slots from i on
module _ (i : ℕ) (cs ls : List ℕ) (h : i < rows) where
  slots_at : slots_good i (rows - i) cs ls ≡ both_of (slot_good i (get_or cs i 0) (get_or ls i 0)) (slots_good (i + 1) (rows - (i + 1)) cs ls)
  unfolding slots_good
  slots_at = ap (λ (m : ℕ). slots_good i m cs ls) (let e : rows - i ≡ suc (rows - (i + 1)) = omega arith in e)

  pub slots_bad : slot_good i (get_or cs i 0) (get_or ls i 0) ≡ false → slots_good i (rows - i) cs ls ≡ false
  slots_bad e = slots_at ∙ simp e

  pub slots_more : slot_good i (get_or cs i 0) (get_or ls i 0) ≡ true → slots_good i (rows - i) cs ls ≡ slots_good (i + 1) (rows - (i + 1)) cs ls
  slots_more e = slots_at ∙ simp e

pub slots_end : (i : ℕ) (cs ls : List ℕ) → rows ≤ i → slots_good i (rows - i) cs ls ≡ true
unfolding slots_good
slots_end i cs ls h = ap (λ (m : ℕ). slots_good i m cs ls) (let e : rows - i ≡ 0 = omega arith in e)

-- a slot's length is judged by its count
pub slot_full : (i count length : ℕ) → (count ≡ 0 → ⊥)
    → slot_good i count length ≡ both_of (within_of (slot_of i).least count (slot_of i).most) (within_of (slot_of i).shortest length (slot_of i).longest)
slot_full i count length n = simp (ne_eqb count 0 n)

-- the kinds
module _ (kind : ℕ) (p : Plan) where
  pub good_volume : kind ≡ volume → plan_good kind p ≡ volume_good p
  unfolding plan_good
  good_volume e = simp (eq-eqb kind volume e)

  pub good_leader : (kind ≡ volume → ⊥) → kind ≡ leader → plan_good kind p ≡ leader_good p
  unfolding plan_good
  good_leader n e = simp (ne_eqb kind volume n, eq-eqb kind leader e)

  pub good_image : (kind ≡ volume → ⊥) → (kind ≡ leader → ⊥) → kind ≡ image → plan_good kind p ≡ image_good p
  unfolding plan_good
  good_image n m e = simp (ne_eqb kind volume n, ne_eqb kind leader m, eq-eqb kind image e)

  pub good_trailer : (kind ≡ volume → ⊥) → (kind ≡ leader → ⊥) → (kind ≡ image → ⊥) → plan_good kind p ≡ both_of (eqb kind trailer) (zero_plan? p)
  unfolding plan_good
  good_trailer n m o = simp (ne_eqb kind volume n, ne_eqb kind leader m, ne_eqb kind image o)

-- what the ranges of an image's plan bound: pixels, data bytes, suffix, lines, their length, the sort
pub image_bounds : (p : Plan) → image_ranges p ≡ true
    → (p.w ≤ 99999999) × (p.d ≤ 99999999) × (p.s ≤ 9999) × (p.n ≤ 999999) × (p.l ≤ 999999) × (p.sort ≤ last_sort)
image_bounds p e =
    let a = both_r (within_of 1 p.n 999999) _ e in
    let b = both_r (within_of 1 p.l 999999) _ a in
    let c = both_r (within_of 1 p.w 99999999) _ b in
    let d = both_r (within_of 1 p.d 99999999) _ c in
    let s = both_r (within_of 0 p.s 9999) _ d in (
      (within_true 1 p.w 99999999 (both_l (within_of 1 p.w 99999999) _ b)).1,
      (within_true 1 p.d 99999999 (both_l (within_of 1 p.d 99999999) _ c)).1,
      (within_true 0 p.s 9999 (both_l (within_of 0 p.s 9999) _ d)).1,
      (within_true 1 p.n 999999 (both_l (within_of 1 p.n 999999) _ e)).1,
      (within_true 1 p.l 999999 (both_l (within_of 1 p.l 999999) _ a)).1,
      (within_true 0 p.sort last_sort s).1,
    )

-- an image's ranges and agreements
module _ (p : Plan) (g : plan_good image p ≡ true) where
  image_parts_lem : both_of (image_ranges p) (image_agrees p) ≡ true
  unfolding plan_good image_good
  image_parts_lem = both_r (both_of (eqb p.pointers 0) (slots_zero? p)) (both_of (image_ranges p) (image_agrees p)) g

  pub image_within : image_ranges p ≡ true
  image_within = both_l (image_ranges p) (image_agrees p) image_parts_lem

  pub image_agrees_lem : (p.d ≡ group_of p * p.w) × (ahead_of p + p.d + p.s ≤ p.l)
  image_agrees_lem =
      let a = both_r (image_ranges p) (image_agrees p) image_parts_lem in (
        eqb-true _ _ (both_l (eqb p.d (group_of p * p.w)) (leb (ahead_of p + p.d + p.s) p.l) a),
        leb-true _ _ (both_r (eqb p.d (group_of p * p.w)) (leb (ahead_of p + p.d + p.s) p.l) a),
      )

  -- the pixels, the suffix and a line's numbers fit L, whatever the sort
  pub image_room : 192 + p.d + p.s ≤ p.l
  image_room = omega (arith, image_agrees_lem.1, sort_ahead p.sort (image_bounds p image_within).5)
