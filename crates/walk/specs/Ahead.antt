-- Records that are passed at once, which is the walk: what the code that looks ahead promises. `Turn` knows nothing of it. Assumes nothing.
use Rattle.std.specs.Prelude.{ℕ, ◌+◌, ◌*◌, ◌≤◌, ◌≡◌, List, Bool, true, length, drop}
use Rattle.plan.specs.Plan.{records_most}
use Rattle.walk.specs.State.{good_state}
use Rattle.walk.specs.Walk.{more, walk_of}
use Rattle.walk.specs.declared.State.{State}

-- the state behind c more records
abbrev pub skipped : State → ℕ → State
skipped st c = record { kind = st.kind; passed = st.passed + c; plan = st.plan }

-- so many records ahead pass, at most that many, and the walk goes on behind them
pub record Ahead (st : State) (b : List ℕ) (most c : ℕ) : Type 0 where
  pub few : c ≤ most
  pub small : c ≤ records_most
  pub room : c * st.plan.l ≤ length b
  pub good : good_state (skipped st c) ≡ true
  pub walks : (m : ℕ) (closed : Bool) → walk_of (c + m) st b closed ≡ more c (walk_of m (skipped st c) (drop (c * st.plan.l) b) closed)
