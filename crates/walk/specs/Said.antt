-- The walk's answers in the words of document 01. Assumes nothing.
use Rattle.std.specs.Prelude.{[], ◌∷◌, pos, Result, Ok, Err}
use Rattle.words.specs.Answer.{Answer, bare, refused_as, waiting, paused, complete, begun}
use Rattle.words.specs.declared.Refusal.{Refusal}
use Rattle.turns.specs.declared.Stop.{Stop}
use Rattle.turns.specs.declared.Stop.TheVariants.{Wait, Pause, Complete, Refused}
use Rattle.walk.specs.declared.State.{State}

-- document 01's word and numbers for each stop: wait with the count of missing bytes, refused with number, record and place
abbrev pub stop_as : Stop → Answer
stop_as (Wait n) = record { word = waiting; numbers = pos n ∷ [] }
stop_as Pause = bare paused
stop_as Complete = bare complete
stop_as (Refused r) = refused_as r

-- and for what a begun walk answers
abbrev pub beginning_as : Result State Refusal → Answer
beginning_as (Ok st) = bare begun
beginning_as (Err r) = refused_as r
