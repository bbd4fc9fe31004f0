-- What is left to judge behind the leader entries that pass is the whole judging of them; each ordinal is a byte, and the lengths add up.
use Prim.Native.Nat.{ℕ, ◌+◌, ◌-◌, ◌*◌, ◌≤◌}
use mathlib.Core.Path.{◌≡◌}
use lib.ListN.{length, drop}
use Rattle.cards.specs.Check.{leaders_of}
use Rattle.cards.proofs.leaders.Given as goal

abbrev pub invariant-loop-at : goal.invariant-loop-at
invariant-loop-at l = (l.at ≤ length l.card) × (l.entries ≤ 255) × (l.sum ≤ l.entries * 4294967295) ×
    ((f : ℕ) × (length l.card ≤ f + l.at) ×
    (leaders_of (length l.card) l.n 0 0 l.from (drop l.from l.card) ≡ leaders_of f l.n l.entries l.sum l.at (drop l.at l.card)))

abbrev pub decreases-loop-at : goal.decreases-loop-at
decreases-loop-at l = length l.card - l.at
