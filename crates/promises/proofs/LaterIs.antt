-- `later_is`: a record behind the first passes exactly where it is the record that `promised` lists at its place; the list is taken run by run, and
-- the search for record k finds the run whose record stands there.
use Prim.Native.Nat.{ℕ, zero, suc, ◌+◌, ◌≤◌, ◌<◌}
use mathlib.Core.Path.{◌≡◌, refl, sym, ap, ◌∙◌, subst}
use mathlib.Core.List.{List, append-nil}
use mathlib.Core.Bool.{true}
use mathlib.Core.Logic.{◌↔◌}
use native.Mathlib.Omega.{arith}
use native.Mathlib.Numerals.{add-one}
use lib.Dec.{eqb}
use lib.ListN.{length, get_or, replicate}
use Rattle.std.specs.Prelude.{Ok}
use Rattle.words.specs.Tests.{within_of}
use Rattle.words.proofs.Laws.{both_l, both_r, within_true}
use Rattle.plan.specs.Tables.{slot_of, other_codes, rows}
use Rattle.plan.specs.Plan.{codes_of, first_length, run_counts, run_lengths, sum_of, total_of, spot_of, plan_good, leader_good, slots_good, slot_good, due_of}
use Rattle.plan.specs.declared.Plan.{Plan}
use Rattle.plan.specs.declared.Due.{Due as Due'}
use Rattle.plan.proofs.Bounds.{slot_each}
use Rattle.plan.proofs.GoodLaws.{slot_full}
use Rattle.bodies.specs.Bodies.{body_of}
use Rattle.headers.specs.Header.{header_of}
use Rattle.promises.specs.Rules.{Kind, volume, leader, image, trailer, kind_number, Due, Record, Coded, Is, Line, text_record}
use Rattle.promises.specs.Newest.{promised}
use Rattle.promises.proofs.Parts.{CodedBy, header_is}
use Rattle.promises.proofs.Sorts.{code_same}
use Rattle.promises.proofs.BodyIs.{holds_of, Long, body_is}
use Rattle.promises.proofs.Runs.{expand, expand_length, rows_expand, At, spot_at}

-- what is due of a record of a run: the run's codes, its length, and what it holds
abbrev pub promised_by : Kind → Plan → ℕ → ℕ → Due
promised_by kind p run l = record { Codes = CodedBy (codes_of (kind_number kind) p run); long = l; Holds = holds_of kind p run }

-- ---- the promised records, run by run

leader_runs : (p : Plan) → length p.counts ≡ rows → length p.lengths ≡ rows
    → promised leader p ≡ expand (promised_by leader p) 1 p.counts p.lengths
unfolding codes_of slot_of
leader_runs p cl ll = rows_expand (promised_by leader p) p.counts p.lengths rows 0 (sym cl) (sym ll)

pub promised_runs : (kind : Kind) (p : Plan) → length p.counts ≡ rows → length p.lengths ≡ rows
    → promised kind p ≡ expand (promised_by kind p) 1 (run_counts (kind_number kind) p) (run_lengths (kind_number kind) p)
unfolding run_counts run_lengths codes_of other_codes
promised_runs volume p c l = refl
promised_runs leader p c l = leader_runs p c l
promised_runs image p c l =
    ap (λ (x : ℕ). replicate p.n (record { Codes = Coded 50 x 18 (Is 20); long = p.l; Holds = Line p.w })) (sym (code_same p.sort)) ∙ sym
    (append-nil _)
promised_runs trailer p c l = refl

pub runs_length : (kind : Kind) (p : Plan) → length p.counts ≡ rows → length p.lengths ≡ rows
    → length (run_counts (kind_number kind) p) ≡ length (run_lengths (kind_number kind) p)
unfolding run_counts run_lengths
runs_length volume p c l = refl
runs_length leader p c l = c ∙ sym l
runs_length image p c l = refl
runs_length trailer p c l = refl

pub promised_length : (kind : Kind) (p : Plan) → length p.counts ≡ rows → length p.lengths ≡ rows
    → length (promised kind p) + 1 ≡ total_of (kind_number kind) p
unfolding total_of
promised_length kind p c l =
    let e = ap length (promised_runs kind p c l)
    ∙ expand_length (promised_by kind p) 1 (run_counts (kind_number kind) p) (run_lengths (kind_number kind) p) (runs_length kind p c l) in
    omega arith

-- ---- the lengths that the fields need

pub slot_long : (p : Plan) (j : ℕ) → plan_good 2 p ≡ true → j < rows → 1 ≤ get_or p.counts j 0
    → ((slot_of j).shortest ≤ get_or p.lengths j 0) × (get_or p.lengths j 0 ≤ (slot_of j).longest)
unfolding plan_good leader_good
slot_long p j g h s =
    let e = both_l (slots_good 0 rows p.counts p.lengths) _ (both_r (eqb p.pointers 0) _ g) in
    let z : 0 + j ≡ j = omega arith in
    let q = subst (λ (i : ℕ). slot_good i (get_or p.counts i 0) (get_or p.lengths i 0) ≡ true) z (slot_each 0 rows p.counts p.lengths e j h) in
    within_true (slot_of j).shortest (get_or p.lengths j 0) (slot_of j).longest
    (both_r (within_of (slot_of j).least (get_or p.counts j 0) (slot_of j).most) _
    (sym (slot_full j (get_or p.counts j 0) (get_or p.lengths j 0) (λ y. omega arith)) ∙ q))

run_long : (kind : Kind) (p : Plan) → plan_good (kind_number kind) p ≡ true → 1 < total_of (kind_number kind) p → (j : ℕ)
    → 1 ≤ get_or (run_counts (kind_number kind) p) j 0
    → Long kind (suc j) (get_or (run_lengths (kind_number kind) p) j 0)
unfolding run_counts run_lengths slot_of total_of sum_of
run_long volume p g t zero s = refl
run_long volume p g t (suc j) s = tt
run_long leader p g t zero s = let b = slot_long p 0 g (omega arith) s in omega arith
run_long leader p g t (suc zero) s = let b = slot_long p 1 g (omega arith) s in omega arith
run_long leader p g t (suc (suc j)) s = tt
run_long image p g t j s = tt
run_long trailer p g t j s = absurd (omega arith)

-- ---- the records behind the first

-- the record promised at place k behind the first, and the one that the walk has due there
abbrev pub due : Kind → Plan → ℕ → Due
due kind p k = get_or (promised kind p) k text_record

abbrev pub due_at : Kind → Plan → ℕ → Due'
due_at kind p k = due_of (kind_number kind) p (suc k)

-- the record there is whole, and neither its header nor its body has a fault
pub record Judged (kind : Kind) (p : Plan) (k : ℕ) (r : List ℕ) : Type 0 where
  pub size : length r ≡ (due_at kind p k).length
  pub head : header_of (due_at kind p k).ordinal (due_at kind p k).codes (due_at kind p k).length r ≡ Ok tt
  pub body : body_of (kind_number kind) (due_at kind p k).run p (suc k) r ≡ Ok tt

-- the rule of a record that is due there
abbrev pub Rule : Due → ℕ → List ℕ → Type 0
Rule d k r = Record (suc (suc k)) d.Codes d.long r × d.Holds (suc k) r

module _ (kind : Kind) (p : Plan) (good : plan_good (kind_number kind) p ≡ true) (cl : length p.counts ≡ rows) (ll : length p.lengths ≡ rows) (k : ℕ)
    (going : suc k < total_of (kind_number kind) p) where
  pub found : At (promised_by kind p) text_record 1 k (run_counts (kind_number kind) p) (run_lengths (kind_number kind) p)
      (spot_of (kind_number kind) p (suc k))
  unfolding spot_of total_of
  found =
      spot_at (promised_by kind p) text_record (run_counts (kind_number kind) p) (run_lengths (kind_number kind) p) 1 k (first_length (kind_number kind))
      (runs_length kind p cl ll) (omega arith)

  pub due_is : due kind p k ≡ promised_by kind p (due_at kind p k).run (due_at kind p k).length
  due_is = ap (λ (ds : List Due). get_or ds k text_record) (promised_runs kind p cl ll) ∙ found.is

  pub due_long : (due kind p k).long ≡ (due_at kind p k).length
  due_long = ap (λ (d : Due). d.long) due_is

  pub long_is : Long kind (due_at kind p k).run (due_at kind p k).length
  long_is =
      let f = found in
      let e : (due_at kind p k).run ≡ suc f.j = let z = f.run in omega arith in
      subst (λ (i : ℕ). Long kind i (due_at kind p k).length) (sym e)
      (subst (Long kind (suc f.j)) (sym f.long) (run_long kind p good (omega arith) f.j f.some))

  module _ (r : List ℕ) where
    header : length r ≡ (due_at kind p k).length
        → (header_of (due_at kind p k).ordinal (due_at kind p k).codes (due_at kind p k).length r ≡ Ok tt)
        ↔ Record (suc (suc k)) (CodedBy (due_at kind p k).codes) (due_at kind p k).length r
    header e =
        subst (λ (o : ℕ). (header_of (due_at kind p k).ordinal (due_at kind p k).codes (due_at kind p k).length r ≡ Ok tt)
        ↔ Record o (CodedBy (due_at kind p k).codes) (due_at kind p k).length r) (add-one (suc k))
        (header_is (due_at kind p k).ordinal (due_at kind p k).codes (due_at kind p k).length r e)

    body : length r ≡ (due_at kind p k).length
        → (body_of (kind_number kind) (due_at kind p k).run p (suc k) r ≡ Ok tt) ↔ holds_of kind p (due_at kind p k).run (suc k) r
    body e = body_is kind p (due_at kind p k).run (suc k) r (subst (Long kind (due_at kind p k).run) (sym e) long_is)

    judged_to : Judged kind p k r → Rule (promised_by kind p (due_at kind p k).run (due_at kind p k).length) k r
    judged_to j = ((header j.size).0 j.head, (body j.size).0 j.body)

    judged_from : Rule (promised_by kind p (due_at kind p k).run (due_at kind p k).length) k r → Judged kind p k r
    judged_from h = record { size = h.0.size; head = (header h.0.size).1 h.0; body = (body h.0.size).1 h.1 }

    pub later_is : Judged kind p k r ↔ Rule (due kind p k) k r
    later_is = (λ j. subst (λ (d : Due). Rule d k r) (sym due_is) (judged_to j), λ h. judged_from (subst (λ (d : Due). Rule d k r) due_is h))
