-- Each number below the loop's index is that sample.
use Rattle.std.proofs.Common.{ℕ, ◌≡◌, ◌*◌, ◌<◌, get_or}
use Rattle.words.specs.Words.{two_at}
use Rattle.copies.proofs.write.Given as goal

abbrev pub invariant-loop-j : goal.invariant-loop-j
invariant-loop-j l = (k : ℕ) → k < l.j → get_or l.x-items k 0 ≡ two_at l.px (2 * k)
