-- A leader that the rules allow has at most 50 records and ends below 2^32: row by row, as the table of slots bounds counts and lengths.
use Prim.Native.Nat.{ℕ, zero, suc, ◌+◌, ◌-◌, ◌*◌, ◌^◌, ◌≤◌, ◌<◌}
use mathlib.Core.Path.{◌≡◌, sym, ap, ◌∙◌, subst}
use mathlib.Core.List.{List, [], ◌∷◌}
use mathlib.Core.Bool.{true}
use mathlib.Core.Logic.{⊎_elim}
use native.Mathlib.Omega.{arith}
use native.Mathlib.Nat.{mul-le-mul, mul-le-mul_right, suc-mul, zero-mul}
use lib.Dec.{eqb, ltb}
use lib.ListN.{length, get_or}
use borrow.Author.Tests.{eqb-true, ltb-true, ltb-false}
use Rattle.words.specs.Tests.{both_of, within_of}
use Rattle.words.proofs.Laws.{both_l, both_r, cases, within_true, pick_true, pick_false}
use Rattle.plan.specs.Tables.{slot_of}
use Rattle.plan.specs.Plan.{leader, plan_good, leader_good, slot_good, slots_good, image_zero?}
use Rattle.plan.specs.Plan.{run_counts, run_lengths, first_length, sum_of, total_of, spot_from, spot_of, due_of}
use Rattle.plan.specs.declared.Plan.{Plan}
use Rattle.plan.specs.declared.Spot.{Spot}
use Rattle.plan.proofs.Bounds.{slot_each}

-- what the rows from j on allow, m of them: records, and bytes
most_sum : ℕ → ℕ → ℕ
most_sum j zero = 0
most_sum j (suc m) = (slot_of j).most + most_sum (suc j) m

most_area : ℕ → ℕ → ℕ
most_area j zero = 0
most_area j (suc m) = (slot_of j).most * (slot_of j).longest + most_area (suc j) m

-- bytes of the runs
area : List ℕ → List ℕ → ℕ
area [] ls = 0
area (c ∷ cs) [] = 0
area (c ∷ cs) (l ∷ ls) = c * l + area cs ls

-- counts and lengths in range from row j on
Ranged : ℕ → List ℕ → List ℕ → Type 0
Ranged j cs ls = (i : ℕ) → i < length cs → (get_or cs i 0 ≤ (slot_of (j + i)).most) ×
    (get_or cs i 0 * get_or ls i 0 ≤ (slot_of (j + i)).most * (slot_of (j + i)).longest)

later : (j c : ℕ) (cs : List ℕ) (l : ℕ) (ls : List ℕ) → Ranged j (c ∷ cs) (l ∷ ls) → Ranged (suc j) cs ls
unfolding Ranged
later j c cs l ls r i h =
    let e : j + suc i ≡ suc j + i = omega arith in
    subst (λ (k : ℕ). (get_or cs i 0 ≤ (slot_of k).most) × (get_or cs i 0 * get_or ls i 0 ≤ (slot_of k).most * (slot_of k).longest)) e (r (suc i) (omega arith))

sum_most : (j : ℕ) (cs ls : List ℕ) → length cs ≡ length ls → Ranged j cs ls → sum_of cs ≤ most_sum j (length cs)
unfolding sum_of most_sum Ranged
sum_most j [] ls e r = omega arith
sum_most j (c ∷ cs) [] e r = absurd (omega arith)
sum_most j (c ∷ cs) (l ∷ ls) e r =
    let z : j + 0 ≡ j = omega arith in
    let a : c ≤ (slot_of j).most = subst (λ (k : ℕ). c ≤ (slot_of k).most) z (r 0 (omega arith)).0 in
    omega (arith, a, sum_most (suc j) cs ls (omega arith) (later j c cs l ls r))

area_most : (j : ℕ) (cs ls : List ℕ) → length cs ≡ length ls → Ranged j cs ls → area cs ls ≤ most_area j (length cs)
unfolding area most_area Ranged
area_most j [] ls e r = omega arith
area_most j (c ∷ cs) [] e r = absurd (omega arith)
area_most j (c ∷ cs) (l ∷ ls) e r =
    let z : j + 0 ≡ j = omega arith in
    let a : c * l ≤ (slot_of j).most * (slot_of j).longest = subst (λ (k : ℕ). c * l ≤ (slot_of k).most * (slot_of k).longest) z (r 0 (omega arith)).1 in
    omega (arith, a, area_most (suc j) cs ls (omega arith) (later j c cs l ls r))

-- a record of the runs ends within them
spot_ends : (i : ℕ) (cs ls : List ℕ) (k at : ℕ) → length cs ≡ length ls → k < sum_of cs
    → (spot_from i cs ls k at).start + (spot_from i cs ls k at).length ≤ at + area cs ls
unfolding spot_from sum_of area
spot_ends i [] ls k at e h = absurd (omega arith)
spot_ends i (c ∷ cs) [] k at e h = absurd (omega arith)
spot_ends i (c ∷ cs) (l ∷ ls) k at e h =
    ⊎_elim
    (λ t.
    let q = pick_true (ltb k c) (record { run = i; length = l; start = at + k * l }) (spot_from (i + 1) cs ls (k - c) (at + c * l)) t in
    let m : suc k * l ≤ c * l = mul-le-mul_right l (ltb-true k c t) in
    let s : suc k * l ≡ k * l + l = suc-mul k l in
    omega (arith, ap (λ (x : Spot). x.start) q, ap (λ (x : Spot). x.length) q, m, s))
    (λ t.
    let q = pick_false (ltb k c) (record { run = i; length = l; start = at + k * l }) (spot_from (i + 1) cs ls (k - c) (at + c * l)) t in
    let u = ltb-false k c t in
    omega (arith, ap (λ (x : Spot). x.start) q, ap (λ (x : Spot). x.length) q, spot_ends (i + 1) cs ls (k - c) (at + c * l) (omega arith) (omega arith)))
    (cases (ltb k c))

-- ---- a leader

module _ (q : Plan) (g : plan_good leader q ≡ true) (cs : length q.counts ≡ 17) (ls : length q.lengths ≡ 17) where
  slots : slots_good 0 17 q.counts q.lengths ≡ true
  unfolding plan_good leader_good
  slots =
      both_l (slots_good 0 17 q.counts q.lengths) (image_zero? q)
      (both_r (eqb q.pointers 0) (both_of (slots_good 0 17 q.counts q.lengths) (image_zero? q)) g)

  ranged : Ranged 0 q.counts q.lengths
  unfolding Ranged
  ranged i h =
      let z : 0 + i ≡ i = omega arith in
      subst (λ (j : ℕ). (get_or q.counts i 0 ≤ (slot_of j).most) ×
      (get_or q.counts i 0 * get_or q.lengths i 0 ≤ (slot_of j).most * (slot_of j).longest)) (sym z)
      (row i
      (subst (λ (j : ℕ). slot_good j (get_or q.counts j 0) (get_or q.lengths j 0) ≡ true) z (slot_each 0 17 q.counts q.lengths slots i (omega arith))))
    where
      row : (j : ℕ) → slot_good j (get_or q.counts j 0) (get_or q.lengths j 0) ≡ true
          → (get_or q.counts j 0 ≤ (slot_of j).most) × (get_or q.counts j 0 * get_or q.lengths j 0 ≤ (slot_of j).most * (slot_of j).longest)
      row j e =
          let c : ℕ = get_or q.counts j 0 in
          let l : ℕ = get_or q.lengths j 0 in
          let few = (within_true (slot_of j).least c (slot_of j).most (both_l (within_of (slot_of j).least c (slot_of j).most) _ e)).1 in
          let rest = both_r (within_of (slot_of j).least c (slot_of j).most) _ e in (
            few,
            ⊎_elim
                (λ z. let o : c ≡ 0 = eqb-true c 0 z in
                let n : c * l ≡ 0 = ap (λ (x : ℕ). x * l) o ∙ zero-mul l in omega arith)
                (λ z. mul-le-mul few
                (within_true (slot_of j).shortest l (slot_of j).longest (sym (pick_false (eqb c 0) _ _ z) ∙ rest)).1)
                (cases (eqb c 0)),
          )

  -- at most 50 records
  pub few_records : total_of leader q ≤ 50
  unfolding total_of run_counts most_sum slot_of
  few_records = omega (arith, sum_most 0 q.counts q.lengths (cs ∙ sym ls) ranged, ap (most_sum 0) cs)

  -- each ends below 2^32
  pub ends_early : (k : ℕ) → k < total_of leader q → (due_of leader q k).start + (due_of leader q k).length < 2 ^ 32
  unfolding total_of run_counts run_lengths first_length spot_of most_area slot_of
  ends_early zero h = omega arith
  ends_early (suc k) h =
      omega (
        arith,
        spot_ends 1 q.counts q.lengths k 720 (cs ∙ sym ls) (omega arith),
        area_most 0 q.counts q.lengths (cs ∙ sym ls) ranged,
        ap (most_area 0) cs,
      )
