-- What is left to write behind the pairs that are written gives the whole.
use Prim.Native.Nat.{◌+◌, ◌-◌, ◌*◌}
use mathlib.Core.Path.{◌≡◌}
use lib.ListN.{length}
use Rattle.writing.specs.Writing.{written}
use Rattle.cards.specs.Check.{pairs_from}
use Rattle.cards.proofs.pairs.Given as goal

abbrev pub invariant-loop-i : goal.invariant-loop-i
invariant-loop-i l = (length l.out ≡ length l.initial.out) ×
    (written l.initial.out l.to (pairs_from l.count l.from l.step l.card)
    ≡ written l.out (l.to + 2 * l.i) (pairs_from (l.count - l.i) (l.from + l.step * l.i) l.step l.card))
