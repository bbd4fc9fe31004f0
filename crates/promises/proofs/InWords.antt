-- The promises in the words of document 01: what is shown of the walk, the line view, the row copy and the set check, said of the answer's word and
-- numbers. Each word stands for one case of its answer, so each statement is the one over the cases.
use Prim.Native.Nat.{ℕ, ◌+◌, ◌≤◌, ◌<◌}
use mathlib.Core.Path.{◌≡◌, refl, ap, ap₂, ◌∙◌}
use mathlib.Core.Logic.{◌↔◌}
use mathlib.Core.List.{List, [], ◌∷◌, ◌++◌}
use mathlib.Core.Bool.{Bool, true, false}
use lib.IntN.{pos}
use lib.ListN.{length}
use Rattle.std.specs.Prelude.{Ok, Err}
use Rattle.words.specs.Answer.{Answer, waiting, paused, complete, refused, shown, copied, agrees}
use Rattle.words.specs.declared.Refusal.{Refusal}
use Rattle.plan.specs.Plan.{total_of}
use Rattle.plan.specs.declared.Plan.{Plan}
use Rattle.turns.specs.declared.Stop.{Stop}
use Rattle.turns.specs.declared.Stop.TheVariants.{Wait, Pause, Complete, Refused}
use Rattle.walk.specs.State.{fresh}
use Rattle.walk.specs.Walk.{walk_of}
use Rattle.walk.specs.Said.{stop_as}
use Rattle.walk.specs.declared.State.{State}
use Rattle.lines.specs.View.{view_of, View, shown_view}
use Rattle.lines.specs.Said.{view_as}
use Rattle.copies.specs.Row.{copied_of}
use Rattle.copies.specs.Said.{copied_as}
use Rattle.sets.specs.Set.{set_of, Agreement}
use Rattle.sets.specs.Said.{agreement_as}
use Rattle.lines.specs.declared.Unshown.TheVariants as unshown
use Rattle.promises.specs.Rules.{Kind, volume, kind_number}
use Rattle.promises.specs.Newest.{Accepted}
use Rattle.promises.specs.Arriving.{Own, Starts, AtRecordEnd}
use Rattle.promises.specs.Shown.{Stands, line_record, data_count, LineShown, Counts}
use Rattle.promises.proofs.Accepts.{planned, accepts}
use Rattle.promises.proofs.Stays.{refusal_stays}
use Rattle.promises.proofs.Ends.{arriving}
use Rattle.promises.proofs.LineNamed.{line_named}
use Rattle.promises.proofs.RowNamed.{sample_named}
use Rattle.promises.proofs.SetAgrees.{set_agrees}

-- ---- each word is one case

waiting_is : (x : Stop) → (stop_as x).word ≡ waiting → (n : ℕ) × (x ≡ Wait n)
waiting_is (Wait n) e = (n, refl)
waiting_is Pause e = absurd cc
waiting_is Complete e = absurd cc
waiting_is (Refused r) e = absurd cc

refused_is : (x : Stop) → (stop_as x).word ≡ refused → (r : Refusal) × (x ≡ Refused r)
refused_is (Wait n) e = absurd cc
refused_is Pause e = absurd cc
refused_is Complete e = absurd cc
refused_is (Refused r) e = (r, refl)

complete_is : (x : Stop) → (stop_as x).word ≡ complete → x ≡ Complete
complete_is (Wait n) e = absurd cc
complete_is Pause e = absurd cc
complete_is Complete e = refl
complete_is (Refused r) e = absurd cc

-- the answer that shows a line
abbrev pub showing : ℕ → ℕ → ℕ → Answer
showing start count left = record { word = shown; numbers = pos start ∷ pos count ∷ pos left ∷ [] }

shown_is : (v : View) (start count left : ℕ) → view_as v ≡ showing start count left → v ≡ shown_view start count left
shown_is (Ok x) start count left e =
    let n = ap (λ (y : Answer). y.numbers) e in
    let a : x.start ≡ start = cc in
    let b : x.count ≡ count = cc in
    let c : x.left ≡ left = cc in
    ap (λ (i : ℕ). shown_view i x.count x.left) a ∙ ap₂ (λ (i j : ℕ). shown_view start i j) b c
shown_is (Err (unshown.Wait n)) start count left e = absurd (let w = ap (λ (x : Answer). x.word) e in cc)
shown_is (Err (unshown.Refused r)) start count left e = absurd (let w = ap (λ (x : Answer). x.word) e in cc)

agrees_is : (a : Agreement) → (agreement_as a).word ≡ agrees → a ≡ Ok tt
agrees_is (Ok u) e = refl
agrees_is (Err r) e = absurd cc

-- ---- demand 2

pub accepts_said : (kind : Kind) (bs : List ℕ) (n : ℕ) → total_of (kind_number kind) (planned kind bs) < n
    → ((stop_as (walk_of n (fresh (kind_number kind)) bs true).stop).word ≡ complete) ↔ Accepted kind bs
accepts_said kind bs n h =
    let a = accepts kind bs n h in
    (λ e. a.0 (complete_is _ e), λ x. ap (λ (s : Stop). (stop_as s).word) (a.1 x))

-- ---- demand 3

pub refusal_stays_said : (b : ℕ) (st : State) (bs : List ℕ) → (stop_as (walk_of b st bs false).stop).word ≡ refused
    → (ys : List ℕ) (c : Bool) (d : ℕ) → walk_of (b + d) st (bs ++ ys) c ≡ walk_of b st bs false
refusal_stays_said b st bs e = let q = refused_is (walk_of b st bs false).stop e in refusal_stays b st bs q.0 q.1

pub arriving_said : (kind : Kind) {st : State} {pre : List ℕ} → Own kind st pre → (b : ℕ) (bs : List ℕ)
    → ((stop_as (walk_of b st bs false).stop).word ≡ paused → ⊥) → AtRecordEnd kind (pre ++ bs)
    → (((stop_as (walk_of b st bs false).stop).word ≡ waiting) ↔ Starts kind (pre ++ bs))
    × (((stop_as (walk_of b st bs false).stop).word ≡ refused) ↔ (Starts kind (pre ++ bs) → ⊥))
arriving_said kind {st} o b bs p h =
    let a = arriving kind o b bs (λ e. p (ap (λ (s : Stop). (stop_as s).word) e)) h in (
      (λ e. a.0.0 (waiting_is _ e), λ s. ap (λ (x : Stop). (stop_as x).word) (a.0.1 s).1),
      (λ e. a.1.0 (refused_is _ e), λ n. ap (λ (x : Stop). (stop_as x).word) (a.1.1 n).1),
    )

-- ---- lines, rows, sets

pub line_named_said : (bs : List ℕ) (k start count left : ℕ) → (view_as (view_of bs k) ≡ showing start count left) ↔ LineShown bs k start count left
line_named_said bs k start count left =
    let a = line_named bs k start count left in
    (λ e. a.0 (shown_is (view_of bs k) start count left e), λ s. ap view_as (a.1 s))

pub sample_named_said : (bs : List ℕ) (k : ℕ) (p : Plan) (row : List ℕ) → Stands bs k p → p.sort ≡ 0 → data_count (line_record p k bs) ≤ length row
    → copied_as (copied_of bs k (length row)) ≡ record { word = copied; numbers = pos (data_count (line_record p k bs)) ∷ [] }
sample_named_said bs k p row s counts h = ap copied_as (sample_named bs k p row s counts h).0

pub set_agrees_said : (bs cs : List ℕ) → ((agreement_as (set_of bs cs)).word ≡ agrees) ↔ ((a : Accepted volume bs) × Counts a.plan.pointers a.rest cs)
set_agrees_said bs cs =
    let a = set_agrees bs cs in
    (λ e. a.0 (agrees_is (set_of bs cs) e), λ x. ap (λ (y : Agreement). (agreement_as y).word) (a.1 x))
