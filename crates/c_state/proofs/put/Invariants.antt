-- Three numbers, then the pairs, then six: the array so far is the numbers written, then the old ones behind them.
use Prim.Native.Nat.{◌+◌, ◌*◌}
use mathlib.Core.Path.{◌≡◌}
use lib.ListN.{length}
use Rattle.c_state.proofs.PutLaws as laws
use Rattle.c_state.proofs.put.Given as goal

abbrev pub invariant-loop-j : goal.invariant-loop-j
invariant-loop-j l =
    (length l.state ≡ length l.initial.state) × laws.Put l.st (3 + 2 * l.j) l.initial.state l.state
