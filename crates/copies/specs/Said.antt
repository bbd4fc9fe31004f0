-- The answers of the row copy in the words of document 01. Assumes nothing.
use Rattle.std.specs.Prelude.{[], ◌∷◌, pos, Ok, Err}
use Rattle.words.specs.Answer.{Answer, copied}
use Rattle.lines.specs.Said.{unshown_as}
use Rattle.copies.specs.Row.{Copied}

-- a copy: how many samples; else why none
abbrev pub copied_as : Copied → Answer
copied_as (Ok n) = record { word = copied; numbers = pos n ∷ [] }
copied_as (Err x) = unshown_as x
