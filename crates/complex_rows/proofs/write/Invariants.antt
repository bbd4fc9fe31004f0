-- Each number below the loop's index is that one of four bytes.
use Rattle.std.proofs.Common.{ℕ, ◌≡◌, ◌+◌, ◌*◌, ◌<◌, get_or}
use Rattle.words.specs.Words.{four_at}
use Rattle.complex_rows.proofs.write.Given as goal

abbrev pub invariant-loop-j : goal.invariant-loop-j
invariant-loop-j l = (k : ℕ) → k < l.j → get_or l.x-items k 0 ≡ four_at l.bytes (l.start + 4 * k)
