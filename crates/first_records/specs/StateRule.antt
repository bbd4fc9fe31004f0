-- The state rule both ways (document 01, "Refusal numbers", end): a plan that some first record names, the states that it allows, and those
-- that a walk reaches. Assumes nothing.
use Rattle.std.specs.Prelude.{ℕ, ◌+◌, ◌≤◌, ◌≡◌, false, List, ◌⊎◌, length}
use Rattle.plan.specs.declared.Plan.{Plan}
use Rattle.bodies.specs.Named.{plan_of}
use Rattle.walk.specs.State.{fresh}
use Rattle.walk.specs.Walk.{walk_of}
use Rattle.walk.specs.declared.State.{State}
use Rattle.promises.specs.Bytes.{Bytes}
use Rattle.promises.specs.Rules.{Kind, kind_number}
use Rattle.promises.specs.Newest.{First, promised}
use Rattle.first_records.specs.Allowed.{Zeros}

-- some bytes are a first record of the kind that names the plan, with 0 for each number that the kind does not use
abbrev pub Nameable : Kind → Plan → Type 0
Nameable kind p = (r : List ℕ) × Bytes r × First kind r p × (plan_of (kind_number kind) r ≡ p)

-- nothing passed and all zeros; or a first record passed that names the plan, and no more records in all than it and those that it promises
abbrev pub Lawful : Kind → State → Type 0
Lawful kind st =
    ((st.passed ≡ 0) × Zeros st.plan) ⊎ ((1 ≤ st.passed) × (st.passed ≤ 1 + length (promised kind st.plan)) × Nameable kind st.plan)

-- a state of one of the four kinds that the rule allows
abbrev pub AllowedState : State → Type 0
AllowedState st = (kind : Kind) × (st.kind ≡ kind_number kind) × Lawful kind st

-- a walk that is begun fresh on some bytes and passes as many records as the state has passed hands the state back
abbrev pub Reached : State → Type 0
Reached st = (kind : Kind) × (bs : List ℕ) × Bytes bs × ((walk_of st.passed (fresh (kind_number kind)) bs false).state ≡ st)
