-- The array is filled from the front with every second number.
use Rattle.plan.specs.Tables.{rows}
use lib.ListN.{length, get_or}
use mathlib.Core.Path.{◌≡◌}
use Prim.Native.Nat.{ℕ, ◌+◌, ◌*◌, ◌<◌}
use Rattle.c_state.proofs.every_second.Given as goal

abbrev pub invariant-loop-j : goal.invariant-loop-j
invariant-loop-j l = (length l.a ≡ rows) × ((k : ℕ) → k < l.j → get_or l.a k 0 ≡ get_or l.state (l.i + 2 * k) 0)
