-- The demands as predicates over any walk function, so that they can be held against wrong ones; and document 01's wrong programs ("How much each
-- promise says"). Assumes nothing.
use Rattle.std.specs.Prelude.{ℕ, zero, suc, ◌+◌, ◌≤◌, ◌<◌, ◌≡◌, ◌↔◌, ◌⊎◌, Bool, true, false, List, eqb, leb, length, get_or, take, drop, Ok}
use Rattle.words.specs.Tests.{pick, both_of}
use Rattle.words.specs.declared.Refusal.{Refusal}
use Rattle.plan.specs.Plan.{total_of, first_length}
use Rattle.bodies.specs.Named.{plan_of}
use Rattle.walk.specs.State.{fresh, good_state, next_due}
use Rattle.walk.specs.Walk.{walk_of, turn_of, next_of, stopped, more, bad_stop, on_turn}
use Rattle.walk.specs.declared.State.{State}
use Rattle.turns.specs.Turn.{Turn}
use Rattle.turns.specs.declared.Stop.TheVariants.{Wait, Pause, Complete, Refused}
use Rattle.walk.specs.declared.Walked.{Walked}
use Rattle.plan.specs.declared.Plan.{Plan}
use Rattle.copies.specs.Row.{copied_of, row_of, Copied}
use Rattle.promises.specs.Shown.{Stands, line_record, data_count, data_pixels, sample}
use Rattle.promises.specs.Rules.{Kind, kind_number}
use Rattle.promises.specs.Newest.{Accepted}
use Rattle.promises.specs.Arriving.{Starts, Waits, Refuses, AtRecordEnd}

-- a walk: budget, state, bytes, closed
abbrev pub Walk : Type 0
Walk = ℕ → State → List ℕ → Bool → Walked

-- how many records the first record of these bytes promises
abbrev pub planned_total : Kind → List ℕ → ℕ
planned_total kind bs = total_of (kind_number kind) (plan_of (kind_number kind) (take (first_length (kind_number kind)) bs))

-- demand 2: begun fresh, closed, with a budget above the planned records, it ends complete exactly on the files that the rules accept
abbrev pub Demand2 : Walk → Type 0
Demand2 W = (kind : Kind) (bs : List ℕ) (n : ℕ) → planned_total kind bs < n → ((W n (fresh (kind_number kind)) bs true).stop ≡ Complete) ↔ Accepted kind bs

-- demand 3: begun fresh, open, at a record's end, with a budget above the planned records or any that does not pause, it waits exactly when some
-- accepted file begins with the bytes and refuses exactly when none does
abbrev pub Demand3 : Walk → Type 0
Demand3 W = (kind : Kind) (bs : List ℕ) (n : ℕ) → (planned_total kind bs < n) ⊎ ((W n (fresh (kind_number kind)) bs false).stop ≡ Pause → ⊥)
    → AtRecordEnd kind bs
    → (Waits (W n (fresh (kind_number kind)) bs false).stop ↔ Starts kind bs) × (Refuses (W n (fresh (kind_number kind)) bs false).stop ↔ (Starts kind bs → ⊥))

-- the count is the state's difference
abbrev pub Counted : Walk → Type 0
Counted W = (n : ℕ) (st : State) (bs : List ℕ) (c : Bool) → (W n st bs c).state.passed ≡ st.passed + (W n st bs c).count

-- ---- rows

-- a row copy: bytes, line number, row; its answer, and the row behind it
pub record Copy : Type 0 where
  pub answer : Copied
  pub row : List ℕ

abbrev pub RowCopy : Type 0
RowCopy = List ℕ → ℕ → List ℕ → Copy

-- demand 2 for rows: of a line of counts that stands there and fits the row, each sample is the one the rules name, high byte first, and later samples stay
abbrev pub Copies : RowCopy → Type 0
Copies R = (bs : List ℕ) (k : ℕ) (p : Plan) (row : List ℕ) → Stands bs k p → p.sort ≡ 0 → data_count (line_record p k bs) ≤ length row
    → ((R bs k row).answer ≡ Ok (data_count (line_record p k bs)))
    × ((j : ℕ) → j < data_count (line_record p k bs) → get_or (R bs k row).row j 0 ≡ sample (data_pixels p (line_record p k bs)) j)
    × ((j : ℕ) → data_count (line_record p k bs) ≤ j → get_or (R bs k row).row j 0 ≡ get_or row j 0)
    × (length (R bs k row).row ≡ length row)

-- demand 1 for rows: on a wait or a refusal every sample stays
abbrev pub Keeps : RowCopy → Type 0
Keeps R = (bs : List ℕ) (k : ℕ) (row : List ℕ) → ((n : ℕ) → (R bs k row).answer ≡ Ok n → ⊥) → (R bs k row).row ≡ row

-- ours
abbrev pub copier : RowCopy
copier bs k row = record { answer = copied_of bs k (length row); row = row_of bs k row }

-- ---- wrong programs

-- a row copy that writes nothing
abbrev pub idler : RowCopy
idler bs k row = record { answer = copied_of bs k (length row); row = row }

-- always refusing
abbrev pub refuser : Refusal → Walk
refuser r n st bs c = stopped st (Refused r)

-- always waiting
abbrev pub waiter : ℕ → Walk
waiter m n st bs c = stopped st (Wait m)

-- always pausing
abbrev pub pauser : Walk
pauser n st bs c = stopped st Pause

-- one fixed answer
abbrev pub fixed : Walked → Walk
fixed w n st bs c = w

-- line 1 is checked and the rest waved through: an image's record behind line 1 passes as soon as it is whole
abbrev pub waved_turn : State → List ℕ → Bool → Turn
waved_turn st bs c =
    pick (both_of (both_of (eqb st.kind 3) (leb 2 st.passed))
    (both_of (leb (next_due st).length (length bs)) (leb (suc st.passed) (total_of st.kind st.plan)))) (Ok tt)
    (turn_of st bs c)

unfoldable pub waver : Walk
waver zero st bs c = pick (good_state st) (stopped st Pause) (stopped st bad_stop)
waver (suc n) st bs c =
    pick (good_state st) (on_turn (waved_turn st bs c) st (more 1 (waver n (next_of st bs) (drop (next_due st).length bs) c))) (stopped st bad_stop)

-- a made-up passed count: one more than there was
abbrev pub boaster : Walk
boaster n st bs c = more 1 (walk_of n st bs c)
