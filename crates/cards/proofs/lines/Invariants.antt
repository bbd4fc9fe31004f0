-- What is left to judge behind the lines that pass is the whole judging of the lines.
use Prim.Native.Nat.{◌+◌, ◌-◌, ◌*◌, ◌≤◌}
use mathlib.Core.Path.{◌≡◌}
use lib.ListN.{length, drop}
use Rattle.cards.specs.Check.{lines_of}
use Rattle.cards.proofs.lines.Given as goal

abbrev pub invariant-loop-k : goal.invariant-loop-k
invariant-loop-k l = (17 + 13 * l.k ≤ length l.card) ×
    (lines_of l.n 0 l.w 17 (drop 17 l.card) ≡ lines_of (l.n - l.k) l.k l.w (17 + 13 * l.k) (drop (17 + 13 * l.k) l.card))
