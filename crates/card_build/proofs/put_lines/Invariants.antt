-- What is left to write behind the lines that are written gives the whole.
use Prim.Native.Nat.{◌+◌, ◌-◌, ◌*◌}
use mathlib.Core.Path.{◌≡◌}
use lib.ListN.{length}
use Rattle.writing.specs.Writing.{written}
use Rattle.card_build.specs.Build.{lines_bytes}
use Rattle.card_build.proofs.put_lines.Given as goal

abbrev pub invariant-loop-k : goal.invariant-loop-k
invariant-loop-k l = (length l.out ≡ length l.initial.out) × (written l.initial.out 17 (lines_bytes l.p.n 0 720 l.p.l l.image)
    ≡ written l.out (17 + 13 * l.k) (lines_bytes (l.p.n - l.k) l.k (720 + l.k * l.p.l) l.p.l l.image))
