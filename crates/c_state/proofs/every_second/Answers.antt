-- The array is filled from the front with every second number.
use Rattle.plan.specs.Tables.{rows}
use Rattle.c_state.proofs.ListLaws.{fill_done}
use Rattle.c_state.specs.Numbers.{every_second}
use lib.ListN.{get_or}
use native.Mathlib.Omega.{arith}
use Prim.Native.Nat.{ℕ, ◌+◌, ◌*◌}
use Rattle.c_state.proofs.every_second.Goals as goal

pub returns : goal.returns
unfolding every_second
returns c = fill_done (λ (k : ℕ). get_or c.args.state.now (c.args.i + 2 * k) 0) c.loop-j.a rows
    c.loop-j.invariant.0 (λ k h. c.loop-j.invariant.1 k (omega arith))
