-- The fields from i on have the first fault of the fields from the first: each field passed had none.
use mathlib.Core.Path.{◌≡◌}
use lib.Seq.{slice}
use Rattle.fields.specs.Listed.{table}
use Rattle.verdicts.specs.Tests.{first_fault, each}
use Rattle.leader.specs.Leader.{listed_tests, fields_tests}
use Rattle.leader.proofs.listed.Given as goal

abbrev pub invariant-loop-i : goal.invariant-loop-i
invariant-loop-i l = first_fault (fields_tests l.r l.from l.to) ≡ first_fault (each (listed_tests l.r) (slice l.i l.to table))
