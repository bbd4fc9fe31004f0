-- What is left of the text is compared with the record from the place reached; each byte that agrees takes one from both.
use Prim.Native.Nat.{◌+◌}
use mathlib.Core.Path.{◌≡◌}
use lib.ListN.{drop}
use Rattle.words.specs.Words.{place_of}
use Rattle.verdicts.specs.Tests.{text_at}
use Rattle.verdicts.proofs.text.Given as goal

abbrev pub invariant-loop-i : goal.invariant-loop-i
invariant-loop-i l = text_at l.r (place_of l.byte) l.t ≡ text_at l.r (l.at + l.i) (drop l.i l.t)
