-- What is left to write behind the leader records that are written gives the whole.
use Prim.Native.Nat.{◌+◌, ◌-◌, ◌*◌}
use mathlib.Core.Path.{◌≡◌}
use lib.ListN.{length}
use Rattle.writing.specs.Writing.{written}
use Rattle.card_build.specs.Build.{leaders_bytes}
use Rattle.card_build.proofs.put_leaders.Given as goal

abbrev pub invariant-loop-k : goal.invariant-loop-k
invariant-loop-k l = (length l.out ≡ length l.initial.out)
    × (written l.initial.out l.from (leaders_bytes l.records 0 l.q) ≡ written l.out (l.from + 10 * l.k) (leaders_bytes (l.records - l.k) l.k l.q))
