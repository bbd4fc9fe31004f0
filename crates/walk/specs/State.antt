-- The walk's state: the fresh state of a kind, the state rule (document 01, "Refusal numbers", end), and the record that is due next. Assumes nothing.
use Rattle.std.specs.Prelude.{ℕ, ◌≤◌, Bool, leb, eqb}
use Rattle.words.specs.Tests.{pick, both_of, within_of}
use Rattle.plan.specs.Plan.{zero_plan, zero_plan?, plan_good, total_of, due_of, run_counts, run_lengths, Small}
use Rattle.plan.specs.declared.Due.{Due}
use Rattle.walk.specs.declared.State.{State}

-- a walk that has passed nothing; kind 0 is the state of no walk, all zeros
abbrev pub fresh : ℕ → State
fresh kind = record { kind = kind; passed = 0; plan = zero_plan }

-- kind 1 to 4; records passed 0 means an all-zero plan; otherwise the plan is one that the rules allow and no more records are passed than planned
unfoldable pub good_state : State → Bool
good_state st =
    both_of (within_of 1 st.kind 4)
    (pick (eqb st.passed 0) (zero_plan? st.plan) (both_of (plan_good st.kind st.plan) (leb st.passed (total_of st.kind st.plan))))

-- the record that is due next
abbrev pub next_due : State → Due
next_due st = due_of st.kind st.plan st.passed

-- the place in the file of the next record's first byte; 0 for a bad state
unfoldable pub start_of : State → ℕ
start_of st = pick (good_state st) (next_due st).start 0

-- what a good state gives the arithmetic: no number of a turn passes 64 bits
pub record Ready (st : State) : Type 0 where
  pub small : Small (run_counts st.kind st.plan) (run_lengths st.kind st.plan)
  pub within : st.passed ≤ total_of st.kind st.plan
