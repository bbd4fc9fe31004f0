-- A turn of the walk from a state, what a passed record makes of the state, and the walk with its budget (document 01, "The record and the walk"). Steps 3
-- to 7 are `turns/specs/Turn.antt`. To be read beside that page. Assumes nothing.
use Rattle.std.specs.Prelude.{ℕ, zero, suc, ◌+◌, List, Bool, take, drop, eqb, Result, Ok, Err}
use Rattle.words.specs.Tests.{pick, within_of}
use Rattle.words.specs.Answer.{bare_refusal}
use Rattle.words.specs.declared.Refusal.{Refusal}
use Rattle.plan.specs.declared.Plan.{Plan}
use Rattle.bodies.specs.Named.{plan_of}
use Rattle.turns.specs.Turn.{Turn, judge_of}
use Rattle.turns.specs.declared.Stop.{Stop}
use Rattle.turns.specs.declared.Stop.TheVariants.{Pause, Refused}
use Rattle.walk.specs.State.{fresh, good_state, next_due}
use Rattle.walk.specs.declared.State.{State}
use Rattle.walk.specs.declared.Walked.{Walked}

-- steps 3 to 7, for the record that is next
abbrev pub turn_of : State → List ℕ → Bool → Turn
turn_of st b closed = judge_of st.kind st.plan st.passed (next_due st) b closed

-- one record more, and that plan
abbrev pub next_with : State → Plan → State
next_with st p = record { kind = st.kind; passed = st.passed + 1; plan = p }

-- the record is passed: one more, and after the first record the plan that it names
unfoldable pub next_of : State → List ℕ → State
next_of st b =
    record {
      kind = st.kind;
      passed = st.passed + 1;
      plan = pick (eqb st.passed 0) (plan_of st.kind (take (next_due st).length b)) st.plan;
    }

abbrev pub stopped : State → Stop → Walked
stopped st x = record { state = st; count = 0; stop = x }

-- n more records were passed before
abbrev pub more : ℕ → Walked → Walked
more n w = record { state = w.state; count = w.count + n; stop = w.stop }

-- 1. bad state: 11, and the state given
unfoldable pub bad_stop : Stop
bad_stop = Refused (bare_refusal 11)

abbrev pub on_turn : Turn → State → Walked → Walked
on_turn (Ok u) st w = w
on_turn (Err x) st w = stopped st x

-- the walk: 1. bad state; 2. budget used up: pause; then a turn, and the rest of the walk behind a record that passed
unfoldable pub walk_of : ℕ → State → List ℕ → Bool → Walked
walk_of zero st b closed = pick (good_state st) (stopped st Pause) (stopped st bad_stop)
walk_of (suc n) st b closed =
    pick (good_state st)
    (on_turn (turn_of st b closed) st (more 1 (walk_of n (next_of st b) (drop (next_due st).length b) closed)))
    (stopped st bad_stop)

-- a walk is begun: the fresh state of the kind, or refusal 1
unfoldable pub begin_of : ℕ → Result State Refusal
begin_of kind = pick (within_of 1 kind 4) (Ok (fresh kind)) (Err (bare_refusal 1))

-- the state of a walk that is begun: all zeros where it is refused
abbrev pub state_begun : Result State Refusal → State
state_begun (Ok st) = st
state_begun (Err x) = fresh 0
