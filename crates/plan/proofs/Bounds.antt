-- A plan that the rules allow, and the plan of a fresh state, promise runs so small that no place in the file passes 64 bits: kind by kind, the leader's
-- slots by the table's own bounds.
use Prim.Native.Nat.{ℕ, zero, suc, ◌+◌, ◌*◌, ◌≤◌, ◌<◌}
use mathlib.Core.Path.{◌≡◌, refl, sym, ◌∙◌, subst}
use mathlib.Core.List.{List, [], ◌∷◌}
use mathlib.Core.Bool.{Bool, true, false}
use mathlib.Core.Logic.{⊎_elim}
use native.Mathlib.Omega.{arith}
use native.Mathlib.Nat.{mul-le-mul, add-zero, zero-add, suc-mul}
use lib.Dec.{eqb, leb}
use lib.ListN.{length, get_or, replicate, get_or-replicate}
use borrow.Author.Tests.{eq-eqb, ne_eqb, eqb-true, eqb-false, leb-true}
use Rattle.words.specs.Tests.{pick, both_of, within_of}
use Rattle.words.proofs.Laws.{both_l, both_r, within_true, cases}
use Rattle.plan.specs.Tables.{rows, slot, slots, slot_of}
use Rattle.plan.specs.Plan.{records_most, volume, leader, image, all_zero, slots_zero?, image_zero?, zero_plan?, slot_good, slots_good, volume_good}
use Rattle.plan.specs.Plan.{leader_good, image_good, image_ranges, plan_good, run_counts, run_lengths, sum_of, total_of, Small}
use Rattle.plan.specs.declared.Plan.{Plan}
use Rattle.plan.specs.declared.Slot.{Slot}
use Rattle.words.proofs.Table.{every, every_at}
use Rattle.plan.proofs.GoodLaws as laws

-- numbers that are all 0
pub zero_each : (l : List ℕ) → all_zero l ≡ true → (i : ℕ) → get_or l i 0 ≡ 0
unfolding all_zero
zero_each [] e i = refl
zero_each (x ∷ xs) e zero = eqb-true x 0 (both_l (eqb x 0) (all_zero xs) e)
zero_each (x ∷ xs) e (suc i) = zero_each xs (both_r (eqb x 0) (all_zero xs) e) i

-- slots that are all good
pub slot_each : (j m : ℕ) (cs ls : List ℕ) → slots_good j m cs ls ≡ true → (k : ℕ) → k < m →
    slot_good (j + k) (get_or cs (j + k) 0) (get_or ls (j + k) 0) ≡ true
unfolding slots_good
slot_each j zero cs ls e k h = absurd (omega arith)
slot_each j (suc m) cs ls e zero h =
    subst (λ (i : ℕ). slot_good i (get_or cs i 0) (get_or ls i 0) ≡ true) (sym (add-zero j))
    (both_l (slot_good j (get_or cs j 0) (get_or ls j 0)) (slots_good (j + 1) m cs ls) e)
slot_each j (suc m) cs ls e (suc k) h =
    subst (λ (i : ℕ). slot_good i (get_or cs i 0) (get_or ls i 0) ≡ true) (let q : j + 1 + k ≡ j + suc k = omega arith in q)
    (slot_each (j + 1) m cs ls (both_r (slot_good j (get_or cs j 0) (get_or ls j 0)) (slots_good (j + 1) m cs ls) e) k (omega arith))

-- the table's own bounds: at most nine records, of at most 99,999,999 bytes, and no more bytes than that in a run
modest : Slot → Bool
modest s = both_of (leb s.most 9) (both_of (leb s.longest 99999999) (leb (s.most * s.longest) 99999999))

all_modest : every modest slots ≡ true
unfolding modest
all_modest = refl

slot_modest : (i : ℕ) → i < rows → ((slot_of i).most ≤ 9) × ((slot_of i).longest ≤ 99999999) × ((slot_of i).most * (slot_of i).longest ≤ 99999999)
unfolding slot_of modest
slot_modest i h =
    let e = every_at modest slots (slot 0 0 0 0 0) all_modest i h in
    let a = both_r (leb (slot_of i).most 9) _ e in (
      leb-true _ _ (both_l (leb (slot_of i).most 9) _ e),
      leb-true _ _ (both_l (leb (slot_of i).longest 99999999) _ a),
      leb-true _ _ (both_r (leb (slot_of i).longest 99999999) _ a),
    )

-- a good slot's count and length
slot_bounds : (i count length : ℕ) → i < rows → slot_good i count length ≡ true → (count ≤ 9) × (length ≤ 99999999) × (count * length ≤ 99999999)
slot_bounds i count length h e =
    let m = slot_modest i h in
    let c = (within_true (slot_of i).least count (slot_of i).most (both_l _ _ e)).1 in
    let t = both_r (within_of (slot_of i).least count (slot_of i).most) _ e in
    go c m (eqb count 0) refl t
  where
    go : count ≤ (slot_of i).most → ((slot_of i).most ≤ 9) × ((slot_of i).longest ≤ 99999999) × ((slot_of i).most * (slot_of i).longest ≤ 99999999)
        → (b : Bool) → eqb count 0 ≡ b → pick b (eqb length 0) (within_of (slot_of i).shortest length (slot_of i).longest) ≡ true
        → (count ≤ 9) × (length ≤ 99999999) × (count * length ≤ 99999999)
    go c m true z t =
        let l = eqb-true length 0 t in
        let k = eqb-true count 0 z in
        (omega arith, omega arith, rw (k, l) (omega arith))
    go c m false z t =
        let l = (within_true (slot_of i).shortest length (slot_of i).longest t).1 in
        let p : count * length ≤ (slot_of i).most * (slot_of i).longest = mul-le-mul c l in
        (omega (arith, m.0), omega (arith, m.1), omega (arith, m.2))

-- runs of which the first alone, or the first two, hold anything
one_run : (n l : ℕ) → n ≤ 999999 → l ≤ 999999 → Small (n ∷ replicate 16 0) (l ∷ replicate 16 0)
one_run n l hn hl = record { few = few; short = short; area = area }
  where
    few : (i : ℕ) → i < rows → get_or (n ∷ replicate 16 0) i 0 ≤ 999999
    few zero h = hn
    few (suc i) h = omega (arith, get_or-replicate {A = ℕ} 16 i 0 0 (omega arith))

    short : (i : ℕ) → i < rows → get_or (l ∷ replicate 16 0) i 0 ≤ 99999999
    short zero h = omega arith
    short (suc i) h = omega (arith, get_or-replicate {A = ℕ} 16 i 0 0 (omega arith))

    area : (i : ℕ) → i < rows → get_or (n ∷ replicate 16 0) i 0 * get_or (l ∷ replicate 16 0) i 0 ≤ 999998000001
    area zero h = mul-le-mul {n₂ = 999999} {m₂ = 999999} hn hl
    area (suc i) h = rw (get_or-replicate {A = ℕ} 16 i 0 0 (omega arith)) (omega arith)

two_runs : (m : ℕ) → m ≤ 999999 → Small (m ∷ 1 ∷ replicate 15 0) (360 ∷ 360 ∷ replicate 15 0)
two_runs m hm = record { few = few; short = short; area = area }
  where
    few : (i : ℕ) → i < rows → get_or (m ∷ 1 ∷ replicate 15 0) i 0 ≤ 999999
    few zero h = hm
    few (suc zero) h = omega arith
    few (suc (suc i)) h = omega (arith, get_or-replicate {A = ℕ} 15 i 0 0 (omega arith))

    short : (i : ℕ) → i < rows → get_or (360 ∷ 360 ∷ replicate 15 0) i 0 ≤ 99999999
    short zero h = omega arith
    short (suc zero) h = omega arith
    short (suc (suc i)) h = omega (arith, get_or-replicate {A = ℕ} 15 i 0 0 (omega arith))

    area : (i : ℕ) → i < rows → get_or (m ∷ 1 ∷ replicate 15 0) i 0 * get_or (360 ∷ 360 ∷ replicate 15 0) i 0 ≤ 999998000001
    area zero h = omega arith
    area (suc zero) h = omega arith
    area (suc (suc i)) h = rw (get_or-replicate {A = ℕ} 15 i 0 0 (omega arith)) (omega arith)

zero_runs : (cs ls : List ℕ) → ((i : ℕ) → get_or cs i 0 ≡ 0) → ((i : ℕ) → get_or ls i 0 ≡ 0) → Small cs ls
zero_runs cs ls c l =
    record {
      few = λ i h. omega (arith, c i);
      short = λ i h. omega (arith, l i);
      area = λ i h. rw (c i, l i) (omega arith);
    }

slot_runs : (cs ls : List ℕ) → slots_good 0 rows cs ls ≡ true → Small cs ls
slot_runs cs ls e = record { few = λ i h. omega (arith, (at i h).0); short = λ i h. (at i h).1; area = λ i h. omega (arith, (at i h).2) }
  where
    at : (i : ℕ) → i < rows → (get_or cs i 0 ≤ 9) × (get_or ls i 0 ≤ 99999999) × (get_or cs i 0 * get_or ls i 0 ≤ 99999999)
    at i h = slot_bounds i (get_or cs i 0) (get_or ls i 0) h
        (subst (λ (k : ℕ). slot_good k (get_or cs k 0) (get_or ls k 0) ≡ true) (zero-add i) (slot_each 0 rows cs ls e i h))

-- ---- the runs of each kind

module _ (kind : ℕ) (p : Plan) where
  runs_volume : kind ≡ volume → p.pointers ≤ 999999 → Small (run_counts kind p) (run_lengths kind p)
  unfolding run_counts run_lengths
  runs_volume e h = simp (eq-eqb kind volume e) (two_runs p.pointers h)

  runs_leader : (kind ≡ volume → ⊥) → kind ≡ leader → Small p.counts p.lengths → Small (run_counts kind p) (run_lengths kind p)
  unfolding run_counts run_lengths
  runs_leader n e h = simp (ne_eqb kind volume n, eq-eqb kind leader e) h

  runs_image : (kind ≡ volume → ⊥) → (kind ≡ leader → ⊥) → kind ≡ image → p.n ≤ 999999 → p.l ≤ 999999 → Small (run_counts kind p) (run_lengths kind p)
  unfolding run_counts run_lengths
  runs_image n m e h k = simp (ne_eqb kind volume n, ne_eqb kind leader m, eq-eqb kind image e) (one_run p.n p.l h k)

  runs_none : (kind ≡ volume → ⊥) → (kind ≡ leader → ⊥) → (kind ≡ image → ⊥) → Small (run_counts kind p) (run_lengths kind p)
  unfolding run_counts run_lengths all_zero
  runs_none n m o =
      simp (ne_eqb kind volume n, ne_eqb kind leader m, ne_eqb kind image o)
      (zero_runs (replicate rows 0) (replicate rows 0) (zero_each (replicate rows 0) refl) (zero_each (replicate rows 0) refl))

  -- the four kinds, by what each has to show
  by_kind : (kind ≡ volume → p.pointers ≤ 999999) → ((kind ≡ volume → ⊥) → kind ≡ leader → Small p.counts p.lengths)
      → ((kind ≡ volume → ⊥) → (kind ≡ leader → ⊥) → kind ≡ image → (p.n ≤ 999999) × (p.l ≤ 999999)) → Small (run_counts kind p) (run_lengths kind p)
  by_kind v l i =
      ⊎_elim (λ a. let k = eqb-true kind volume a in runs_volume k (v k))
      (λ a. let k = eqb-false kind volume a in
      ⊎_elim (λ b. let m = eqb-true kind leader b in runs_leader k m (l k m))
      (λ b. let m = eqb-false kind leader b in
      ⊎_elim (λ c. let o = eqb-true kind image c in runs_image k m o (i k m o).0 (i k m o).1)
      (λ c. runs_none k m (eqb-false kind image c)) (cases (eqb kind image)))
      (cases (eqb kind leader)))
      (cases (eqb kind volume))

  pub small_good : plan_good kind p ≡ true → Small (run_counts kind p) (run_lengths kind p)
  unfolding volume_good leader_good image_good
  small_good e =
      by_kind
      (λ k. let h = (within_true 3 p.pointers 6 (both_l (within_of 3 p.pointers 6) _ (sym (laws.good_volume kind p k) ∙ e))).1 in omega arith)
      (λ n k. slot_runs p.counts p.lengths (both_l _ _ (both_r (eqb p.pointers 0) _ (sym (laws.good_leader kind p n k) ∙ e))))
      (λ n m k.
      let b = laws.image_bounds p
      (both_l (image_ranges p) _ (both_r (both_of (eqb p.pointers 0) (slots_zero? p)) _ (sym (laws.good_image kind p n m k) ∙ e))) in
      (b.3, b.4))

  pub small_zero : zero_plan? p ≡ true → Small (run_counts kind p) (run_lengths kind p)
  unfolding zero_plan?
  small_zero e =
      let z = both_l (eqb p.pointers 0) _ e in
      let r = both_r (eqb p.pointers 0) _ e in
      let s = both_l (slots_zero? p) _ r in
      let i = both_r (slots_zero? p) (image_zero? p) r in
      let n0 = eqb-true p.n 0 (both_l (eqb p.n 0) _ i) in
      let l0 = eqb-true p.l 0 (both_l (eqb p.l 0) _ (both_r (eqb p.n 0) _ i)) in
      by_kind (λ k. let h = eqb-true p.pointers 0 z in omega arith)
      (λ n k. zero_runs p.counts p.lengths (zero_each p.counts (both_l (all_zero p.counts) _ s))
      (zero_each p.lengths (both_r (all_zero p.counts) _ s)))
      (λ n m k. (omega arith, omega arith))

-- ---- the planned total is small too

sum_small : (cs : List ℕ) (m : ℕ) → length cs ≡ m → ((i : ℕ) → i < m → get_or cs i 0 ≤ 999999) → sum_of cs ≤ m * 999999
unfolding sum_of
sum_small [] m e h = omega arith
sum_small (c ∷ cs) zero e h = absurd (omega arith)
sum_small (c ∷ cs) (suc m) e h =
    let a = h 0 (omega arith) in
    let b = sum_small cs m (omega arith) (λ i k. h (suc i) (omega arith)) in
    omega (arith, suc-mul m 999999)

run_length : (kind : ℕ) (p : Plan) → length p.counts ≡ rows → length (run_counts kind p) ≡ rows
unfolding run_counts
run_length kind p e = go (eqb kind volume) (eqb kind leader) (eqb kind image)
  where
    go : (a b c : Bool) → length (pick a (p.pointers ∷ 1 ∷ replicate 15 0) (pick b p.counts (pick c (p.n ∷ replicate 16 0) (replicate rows 0)))) ≡ rows
    go true b c = refl
    go false true c = e
    go false false true = refl
    go false false false = refl

pub total_small : (kind : ℕ) (p : Plan) → length p.counts ≡ rows → Small (run_counts kind p) (run_lengths kind p) → total_of kind p ≤ records_most + 1
unfolding total_of
total_small kind p e s = omega (arith, sum_small (run_counts kind p) rows (run_length kind p e) s.few)
