-- How many bytes a walk passed: what a caller leaves out of the bytes handed to the next call. Assumes nothing.
use Rattle.std.specs.Prelude.{ℕ, zero, suc, ◌+◌, List, Bool, drop, Ok, Err}
use Rattle.words.specs.Tests.{pick}
use Rattle.walk.specs.State.{good_state, next_due}
use Rattle.walk.specs.Walk.{turn_of, next_of}
use Rattle.walk.specs.declared.State.{State}
use Rattle.turns.specs.Turn.{Turn}

-- that many bytes where the record passes, none where the walk stops
abbrev pub on_pass : Turn → ℕ → ℕ
on_pass (Ok u) n = n
on_pass (Err x) n = 0

-- the lengths of the records passed, added up, by the walk's own turns
unfoldable pub used_of : ℕ → State → List ℕ → Bool → ℕ
used_of zero st b closed = 0
used_of (suc n) st b closed =
    pick (good_state st)
    (on_pass (turn_of st b closed) ((next_due st).length + used_of n (next_of st b) (drop (next_due st).length b) closed))
    0
