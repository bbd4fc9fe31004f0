-- A state's numbers as they cross the C boundary, in the order of include/seobangyu.h: a state's 43. Assumes nothing.
use Rattle.plan.specs.Tables.{rows}
use Rattle.std.specs.Prelude.{ℕ, zero, suc, ◌+◌, ◌-◌, ◌*◌, ◌/◌, ◌%◌, List, [], ◌∷◌, ltb, eqb, get_or}
use Rattle.words.specs.Tests.{pick}
use Rattle.plan.specs.declared.Plan.{Plan}
use Rattle.walk.specs.declared.State.{State}

-- the numbers g i, g (i + 1) and on, n of them
unfoldable pub list_from : (ℕ → ℕ) → ℕ → ℕ → List ℕ
list_from g i zero = []
list_from g i (suc n) = g i ∷ list_from g (suc i) n

-- ---- a state: kind, passed, pointers; count and length of slots 1, 2, 3, 4, 5, 7 and of the eleven facility pairs, in turn; n, L, w, d, s, sort

-- number j of the pairs
unfoldable pub pair_number : Plan → ℕ → ℕ
pair_number p j = pick (eqb (j % 2) 0) (get_or p.counts (j / 2) 0) (get_or p.lengths (j / 2) 0)

-- number i of a state
unfoldable pub state_number : State → ℕ → ℕ
state_number st i =
    pick (ltb i 3) (get_or (st.kind ∷ st.passed ∷ st.plan.pointers ∷ []) i 0)
    (pick (ltb i 37) (pair_number st.plan (i - 3))
    (get_or (st.plan.n ∷ st.plan.l ∷ st.plan.w ∷ st.plan.d ∷ st.plan.s ∷ st.plan.sort ∷ []) (i - 37) 0))

unfoldable pub numbers_of : State → List ℕ
numbers_of st = list_from (state_number st) 0 43

-- every second number from number i on, one a row of the plan
unfoldable pub every_second : ℕ → List ℕ → List ℕ
every_second i l = list_from (λ (j : ℕ). get_or l (i + 2 * j) 0) 0 rows

-- the plan, and the state, that the numbers are
abbrev pub plan_in : List ℕ → Plan
plan_in l =
    record {
      pointers = get_or l 2 0;
      counts = every_second 3 l;
      lengths = every_second 4 l;
      n = get_or l 37 0;
      l = get_or l 38 0;
      w = get_or l 39 0;
      d = get_or l 40 0;
      s = get_or l 41 0;
      sort = get_or l 42 0;
    }

unfoldable pub state_in : List ℕ → State
state_in l = record { kind = get_or l 0 0; passed = get_or l 1 0; plan = plan_in l }
