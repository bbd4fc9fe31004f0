-- A turn of the walk refuses exactly with the first thing wrong in the record that `Refusals` lists at its place: the list is taken run by run, as
-- `promised` is, and the search for record k finds the run whose record stands there.
use Prim.Native.Nat.{ℕ, suc, ◌+◌, ◌≤◌, ◌<◌}
use mathlib.Core.Path.{◌≡◌, refl, sym, ap, ap₂, ◌∙◌, subst}
use mathlib.Core.Logic.{◌↔◌, ⊎_elim}
use mathlib.Core.List.{List, [], ◌∷◌, ◌++◌, append-nil}
use mathlib.Core.Bool.{Bool, true}
use native.Mathlib.Omega.{arith}
use native.Mathlib.Numerals.{add-one}
use lib.Dec.{leb}
use lib.ListN.{length, get_or, take, drop, replicate, drop_of_length-le}
use lib.Seq.{drop-cons, length-take-le}
use borrow.Author.Tests.{leb-true, leb-false}
use Rattle.std.specs.Prelude.{Err}
use Rattle.words.specs.declared.Refusal.{Refusal}
use Rattle.words.proofs.Laws.{cases}
use Rattle.plan.specs.Tables.{slot_of, other_codes, rows}
use Rattle.plan.specs.Plan.{codes_of, first_codes, first_length, run_counts, run_lengths, total_of, spot_of, plan_good, zero_plan}
use Rattle.plan.specs.declared.Plan.{Plan}
use Rattle.headers.specs.Header.{header_of}
use Rattle.bodies.specs.Bodies.{body_of}
use Rattle.walk.specs.State.{fresh, next_due}
use Rattle.walk.specs.Walk.{turn_of}
use Rattle.turns.specs.Turn.{judge_of}
use Rattle.turns.specs.declared.Stop.TheVariants.{Refused}
use Rattle.turns.proofs.TurnLaws.{one_total}
use Rattle.promises.specs.Rules.{Kind, volume, leader, image, trailer, kind_number, Is, sort_of}
use Rattle.promises.proofs.Parts.{CodedBy}
use Rattle.promises.proofs.Sorts.{code_same}
use Rattle.promises.proofs.AnyEdition.{Same}
use Rattle.promises.proofs.BodyIs.{Long}
use Rattle.promises.proofs.Runs.{expand, expand_length, rows_expand, rows_same, spot_at}
use Rattle.promises.proofs.LaterIs.{runs_length, due_at, long_is}
use Rattle.refusals.specs.Refusals.{Asked, header, asked, nothing, pointer_body, line_body, first_asked, later_asked}
use Rattle.refusals.proofs.Finds.{Finds}
use Rattle.refusals.proofs.PartFinds.{header_finds}
use Rattle.refusals.proofs.BodyFinds.{body_by, body_finds, first_finds}
use Rattle.refusals.proofs.Judged.{Told, ended_is, judge_is}

-- what is asked of a record of a run
abbrev asked_by : Kind → Plan → ℕ → ℕ → Asked
asked_by kind p run l = record { Codes = CodedBy (codes_of (kind_number kind) p run); long = l; body = body_by kind p run }

leader_runs : (p : Plan) → length p.counts ≡ rows → length p.lengths ≡ rows
    → later_asked leader p ≡ expand (asked_by leader p) 1 p.counts p.lengths
unfolding codes_of slot_of
leader_runs p cl ll = rows_expand (asked_by leader p) p.counts p.lengths rows 0 (sym cl) (sym ll)

asked_runs : (kind : Kind) (p : Plan) → length p.counts ≡ rows → length p.lengths ≡ rows
    → later_asked kind p ≡ expand (asked_by kind p) 1 (run_counts (kind_number kind) p) (run_lengths (kind_number kind) p)
unfolding run_counts run_lengths codes_of other_codes
asked_runs volume p c l = refl
asked_runs leader p c l = leader_runs p c l
asked_runs image p c l =
    ap (λ (x : ℕ). replicate p.n (asked 50 x 18 (Is 20) p.l (line_body p.w))) (sym (code_same p.sort)) ∙ sym (append-nil _)
asked_runs trailer p c l = refl

asked_length : (kind : Kind) (p : Plan) → length p.counts ≡ rows → length p.lengths ≡ rows
    → length (later_asked kind p) + 1 ≡ total_of (kind_number kind) p
unfolding total_of
asked_length kind p c l =
    let e = ap length (asked_runs kind p c l)
    ∙ expand_length (asked_by kind p) 1 (run_counts (kind_number kind) p) (run_lengths (kind_number kind) p) (runs_length kind p c l) in
    omega arith

-- plans with the same numbers ask the same of the records behind the first
leader_same : (p q : Plan) → Same leader p q → later_asked leader p ≡ later_asked leader q
unfolding codes_of slot_of
leader_same p q s = rows_same (asked_by leader p) p.counts p.lengths q.counts q.lengths rows 0 s

-- the lines of an image, by the numbers that they hang on
line_of : ℕ → ℕ → ℕ → ℕ → List Asked
line_of n l w sort = replicate n (asked 50 (sort_of sort).code 18 (Is 20) l (line_body w))

pub same_asked : (kind : Kind) (p q : Plan) → Same kind p q → later_asked kind p ≡ later_asked kind q
unfolding line_of
same_asked volume p q s = ap (λ (m : ℕ). replicate m (asked 219 192 18 (Is 18) 360 (pointer_body m)) ++ (asked 18 192 18 (Is 18) 360 nothing ∷ [])) s
same_asked leader p q s = leader_same p q s
same_asked image p q s =
    ap₂ (λ (n sort : ℕ). line_of n p.l p.w sort) s.0 s.5 ∙ ap₂ (λ (l w : ℕ). line_of q.n l w q.sort) s.1 s.2
same_asked trailer p q s = refl

-- any record, for a place behind the last
no_asked : Asked
no_asked = asked 18 192 18 (Is 18) 360 nothing

module _ (kind : Kind) (p : Plan) (good : plan_good (kind_number kind) p ≡ true) (cl : length p.counts ≡ rows) (ll : length p.lengths ≡ rows) (k : ℕ)
  where
    asked_is : suc k < total_of (kind_number kind) p → get_or (later_asked kind p) k no_asked ≡ asked_by kind p (due_at kind p k).run (due_at kind p k).length
    unfolding spot_of total_of
    asked_is h =
        ap (λ (ds : List Asked). get_or ds k no_asked) (asked_runs kind p cl ll)
        ∙ (spot_at (asked_by kind p) no_asked (run_counts (kind_number kind) p) (run_lengths (kind_number kind) p) 1 k (first_length (kind_number kind))
        (runs_length kind p cl ll) (omega arith)).is

    one_asked : suc k < total_of (kind_number kind) p
        → drop k (later_asked kind p) ≡ asked_by kind p (due_at kind p k).run (due_at kind p k).length ∷ drop (suc k) (later_asked kind p)
    one_asked h =
        drop-cons (later_asked kind p) k no_asked (let e = asked_length kind p cl ll in omega arith)
        ∙ ap (λ (d : Asked). d ∷ drop (suc k) (later_asked kind p)) (asked_is h)

    none_asked : total_of (kind_number kind) p ≤ suc k → drop k (later_asked kind p) ≡ []
    none_asked h = drop_of_length-le (later_asked kind p) {i = k} (let e = asked_length kind p cl ll in omega arith)

    module _ (b : List ℕ) (c : Bool) (x : Refusal) where
      abbrev Answers : List Asked → Type 1
      Answers next = (judge_of (kind_number kind) p (suc k) (due_at kind p k) b c ≡ Err (Refused x))
          ↔ Told (kind_number kind) p (suc k) (due_at kind p k) b c next x

      going : suc k < total_of (kind_number kind) p
          → Answers (asked_by kind p (due_at kind p k).run (due_at kind p k).length ∷ drop (suc k) (later_asked kind p))
      going h =
          judge_is (kind_number kind) p (suc k) (due_at kind p k) b c (asked_by kind p (due_at kind p k).run (due_at kind p k).length)
          (drop (suc k) (later_asked kind p)) h refl
          (subst (λ (o : ℕ). Finds (header_of (suc k + 1) (due_at kind p k).codes (due_at kind p k).length b)
          (header o (CodedBy (due_at kind p k).codes) (due_at kind p k).length b)) (add-one (suc k))
          (header_finds (suc k + 1) (due_at kind p k).codes (due_at kind p k).length b))
          (λ l.
          body_finds kind p (due_at kind p k).run (suc k) (take (due_at kind p k).length b)
          (subst (Long kind (due_at kind p k).run) (sym (length-take-le (due_at kind p k).length b l)) (long_is kind p good cl ll k h))) x

      -- behind k records and the first
      pub later_told : Answers (drop k (later_asked kind p))
      later_told =
          ⊎_elim
          (λ h. let o = leb-true (total_of (kind_number kind) p) (suc k) h in
          subst Answers (sym (none_asked o)) (ended_is (kind_number kind) p (suc k) (due_at kind p k) b c o x))
          (λ h. let o = leb-false (total_of (kind_number kind) p) (suc k) h in subst Answers (sym (one_asked o)) (going o))
          (cases (leb (total_of (kind_number kind) p) (suc k)))

-- ---- the first record

first_head : (kind : Kind) (b : List ℕ)
    → Finds (header_of 1 (first_codes (kind_number kind)) (first_length (kind_number kind)) b) (header 1 (first_asked kind).Codes (first_asked kind).long b)
unfolding first_codes other_codes first_length
first_head volume b = header_finds 1 (first_codes 1) 360 b
first_head leader b = header_finds 1 (first_codes 2) 720 b
first_head image b = header_finds 1 (first_codes 3) 720 b
first_head trailer b = header_finds 1 (first_codes 4) 720 b

first_long : (kind : Kind) → first_length (kind_number kind) ≡ (first_asked kind).long
unfolding first_length
first_long volume = refl
first_long leader = refl
first_long image = refl
first_long trailer = refl

first_body_lem : (kind : Kind) (b : List ℕ) → first_length (kind_number kind) ≤ length b
    → Finds (body_of (kind_number kind) 0 zero_plan 0 (take (first_length (kind_number kind)) b)) ((first_asked kind).body 0 (take (first_asked kind).long b))
unfolding first_length
first_body_lem volume b l = first_finds volume zero_plan 0 (take 360 b) (length-take-le 360 b l)
first_body_lem leader b l = first_finds leader zero_plan 0 (take 720 b) (length-take-le 720 b l)
first_body_lem image b l = first_finds image zero_plan 0 (take 720 b) (length-take-le 720 b l)
first_body_lem trailer b l = first_finds trailer zero_plan 0 (take 720 b) (length-take-le 720 b l)

-- before any record
pub first_told : (kind : Kind) (b : List ℕ) (c : Bool) (x : Refusal)
    → (turn_of (fresh (kind_number kind)) b c ≡ Err (Refused x))
    ↔ Told (kind_number kind) zero_plan 0 (next_due (fresh (kind_number kind))) b c (first_asked kind ∷ []) x
unfolding spot_of codes_of
first_told kind b c x =
    judge_is (kind_number kind) zero_plan 0 (next_due (fresh (kind_number kind))) b c (first_asked kind) [] (one_total (kind_number kind) zero_plan)
    (first_long kind) (first_head kind b) (first_body_lem kind b) x
