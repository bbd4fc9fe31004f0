-- The lines found so far and those left to be found are as many as there are in all; the next one begins behind those found.
use Rattle.ahead.proofs.LineLaws as laws
use lib.ListN.{length}
use Prim.Native.Nat.{◌≤◌}
use Rattle.ahead.proofs.lines_ahead.Given as goal

abbrev pub invariant-loop-c : goal.invariant-loop-c
invariant-loop-c l = (l.at ≤ length l.b) × laws.Counting l.sort l.w l.l l.k l.most l.c l.at l.b
