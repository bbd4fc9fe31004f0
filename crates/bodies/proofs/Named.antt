-- `first_good`: a first record that passes names a plan that the rules allow; each test of its body that holds is a rule of the plan.
use Prim.Native.Nat.{ℕ, zero, suc, ◌+◌, ◌≤◌, ◌<◌}
use mathlib.Core.Path.{◌≡◌, refl, ap, subst}
use mathlib.Core.List.{List}
use mathlib.Core.Bool.{Bool, true, false}
use native.Mathlib.Omega.{arith}
use lib.Dec.{eqb}
use lib.ListN.{get_or}
use borrow.Author.Tests.{eqb-true, eqb-false, eq-eqb}
use Rattle.std.specs.Prelude.{Some, Ok}
use Rattle.words.specs.Tests.{pick, within_of}
use Rattle.words.proofs.Laws.{true_within}
use Rattle.decimal.specs.declared.Form.TheVariants.{I4, I6, I8}
use Rattle.plan.specs.Tables.{rows, slot_of, last_sort}
use Rattle.plan.specs.Plan.{plan_good, volume_good, leader_good, image_good, zero_plan?, all_zero, slot_good, slots_good}
use Rattle.plan.specs.declared.Plan.{Plan}
use Rattle.plan.specs.declared.Slot.{Slot}
use Rattle.verdicts.specs.Numbers.{number_at, numbers_tests}
use Rattle.volume.specs.Volume.{volume_numbers, volume_tests, volume_record}
use Rattle.leader.specs.Leader.{pair, pairs, pair_row, admitted, admitted_pair, slot_in, count_at}
use Rattle.leader.specs.Leader.{length_at, pair_tests, leader_tests, leader_record, counts_of, lengths_of}
use Rattle.image.specs.Image.{sort_in, image_numbers, agree_tests, agreements, image_tests, image_record}
use Rattle.bodies.specs.Bodies.{body_tests, body_of}
use Rattle.bodies.specs.Named.{plan_of}
use Rattle.verdicts.proofs.FillLaws.{map_at}
use Rattle.verdicts.proofs.Holding.{Holds, fine_holds, holds_split, each_holds, row_holds}
use Rattle.image.proofs.ImageLaws.{bounded, sort_in_lem}
use Rattle.leader.proofs.PairLaws.{length_none, count_in_lem, length_in}
use Rattle.leader.proofs.TableLaws.{admitted_bound, admitted_row}

-- ---- a leader's slots

-- count and length in range, and the length 0 where the count is
pub slot_good_lem : (i c l : ℕ) → ((slot_of i).least ≤ c) × (c ≤ (slot_of i).most) → (c ≡ 0 → l ≡ 0)
    → ((c ≡ 0 → ⊥) → ((slot_of i).shortest ≤ l) × (l ≤ (slot_of i).longest)) → slot_good i c l ≡ true
slot_good_lem i c l a none some = rw (true_within (slot_of i).least c (slot_of i).most a.0 a.1) (go (eqb c 0) refl)
  where
    go : (t : Bool) → eqb c 0 ≡ t → pick t (eqb l 0) (within_of (slot_of i).shortest l (slot_of i).longest) ≡ true
    go true e = eq-eqb l 0 (none (eqb-true c 0 e))
    go false e = let b = some (eqb-false c 0 e) in true_within (slot_of i).shortest l (slot_of i).longest b.0 b.1

pub slots_good_lem : (i m : ℕ) (cs ls : List ℕ) → ((k : ℕ) → i ≤ k → k < i + m → slot_good k (get_or cs k 0) (get_or ls k 0) ≡ true) →
    slots_good i m cs ls ≡ true
unfolding slots_good
slots_good_lem i zero cs ls h = refl
slots_good_lem i (suc m) cs ls h =
    rw (h i (omega arith) (omega arith)) (slots_good_lem (i + 1) m cs ls (λ k l u. h k (omega arith) (omega arith)))

-- what the plan says of row i is what the record says at that row's pair
module _ (r : List ℕ) (i : ℕ) (l : i < rows) where
  count_of : get_or (counts_of r) i 0 ≡ count_at r (pair_row (admitted_pair i))
  unfolding counts_of admitted_pair
  count_of = map_at 0 (λ (j : ℕ). count_at r (pair_row j)) admitted i l

  length_of : get_or (lengths_of r) i 0 ≡ length_at r (pair_row (admitted_pair i))
  unfolding lengths_of admitted_pair
  length_of = map_at 0 (λ (j : ℕ). length_at r (pair_row j)) admitted i l

  module _ (h : Holds (leader_tests r)) where
    of_pair : Holds (pair_tests r (pair_row (admitted_pair i)))
    unfolding leader_tests pair_row
    of_pair = each_holds (pair_tests r) (pair 0 I4 (Some 0)) pairs h.1 (admitted_pair i) (admitted_bound i l)

    row_good : slot_good i (get_or (counts_of r) i 0) (get_or (lengths_of r) i 0) ≡ true
    row_good =
        let x = pair_row (admitted_pair i) in
        let s : slot_in x.row ≡ slot_of i = ap slot_in (admitted_row i l) in
        let c = subst (λ (s : Slot). (s.least ≤ count_at r x) × (count_at r x ≤ s.most)) s (count_in_lem r x of_pair) in
        rw (count_of, length_of)
        (slot_good_lem i (count_at r x) (length_at r x) c (length_none r x)
        (λ n. subst (λ (s : Slot). (s.shortest ≤ length_at r x) × (length_at r x ≤ s.longest)) s (length_in r x of_pair n)))

-- ---- each kind

volume_good_lem : (r : List ℕ) → Holds (volume_tests r) → plan_good 1 (plan_of 1 r) ≡ true
unfolding volume_tests plan_of plan_good volume_good all_zero
volume_good_lem r h =
    let b = row_holds r volume_numbers h.1 0 (omega arith) in
    rw (true_within 3 (number_at r 161 I4) 6 b.0 b.1)

leader_good_lem : (r : List ℕ) → Holds (leader_tests r) → plan_good 2 (plan_of 2 r) ≡ true
unfolding plan_of plan_good leader_good
leader_good_lem r h = rw (slots_good_lem 0 rows (counts_of r) (lengths_of r) (λ k l u. row_good r k u h))

image_good_lem : (r : List ℕ) → Holds (image_tests r) → plan_good 3 (plan_of 3 r) ≡ true
unfolding image_tests agree_tests plan_of plan_good image_good all_zero
image_good_lem r h =
    let s = holds_split (numbers_tests r (image_numbers (sort_in r))) (agreements r) h.1.1 in
    let b = bounded (sort_in r) r s.0 in
    rw (
      true_within 1 (number_at r 181 I6) 999999 b.n.0 b.n.1,
      true_within 1 (number_at r 187 I6) 999999 b.l.0 b.l.1,
      true_within 1 (number_at r 249 I8) 99999999 b.w.0 b.w.1,
      true_within 1 (number_at r 281 I8) 99999999 b.d.0 b.d.1,
      true_within 0 (number_at r 289 I4) 9999 b.s.0 b.s.1,
      true_within 0 (sort_in r) last_sort (omega arith) (sort_in_lem r),
      s.1.1.0,
    ) s.1.1.1.0

trailer_good : (r : List ℕ) → plan_good 4 (plan_of 4 r) ≡ true
unfolding plan_of plan_good zero_plan? all_zero
trailer_good r = refl

pub first_good : (kind : ℕ) (p : Plan) (r : List ℕ) → 1 ≤ kind → kind ≤ 4 → body_of kind 0 p 0 r ≡ Ok tt → plan_good kind (plan_of kind r) ≡ true
unfolding body_of body_tests volume_record leader_record image_record
first_good zero p r l h e = absurd (omega arith)
first_good (suc zero) p r l h e = volume_good_lem r (fine_holds (volume_tests r) e)
first_good (suc (suc zero)) p r l h e = leader_good_lem r (fine_holds (leader_tests r) e)
first_good (suc (suc (suc zero))) p r l h e = image_good_lem r (fine_holds (image_tests r) e)
first_good (suc (suc (suc (suc zero)))) p r l h e = trailer_good r
first_good (suc (suc (suc (suc (suc k))))) p r l h e = absurd (omega arith)
