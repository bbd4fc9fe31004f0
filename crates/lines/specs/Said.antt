-- The answers of the line view in the words of document 01. Assumes nothing.
use Rattle.std.specs.Prelude.{[], ◌∷◌, pos, Ok, Err}
use Rattle.words.specs.Answer.{Answer, refused_as, waiting, shown}
use Rattle.lines.specs.View.{View}
use Rattle.lines.specs.declared.Unshown.{Unshown}
use Rattle.lines.specs.declared.Unshown.TheVariants.{Wait, Refused}

-- nothing is shown: wait with the count of missing bytes; refused with number, record and place
abbrev pub unshown_as : Unshown → Answer
unshown_as (Wait n) = record { word = waiting; numbers = pos n ∷ [] }
unshown_as (Refused r) = refused_as r

-- a view: shown with start, data count and left fill; else why not
abbrev pub view_as : View → Answer
view_as (Ok x) = record { word = shown; numbers = pos x.start ∷ pos x.count ∷ pos x.left ∷ [] }
view_as (Err x) = unshown_as x
