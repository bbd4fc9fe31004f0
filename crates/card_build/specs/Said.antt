-- The answer of the card builder in the words of document 02. Assumes nothing.
use Rattle.std.specs.Prelude.{[], ◌∷◌, pos, Ok, Err}
use Rattle.words.specs.Answer.{Answer, refused_as, built}
use Rattle.card_build.specs.Build.{Built}

-- a card: how many bytes; or refused with number, record and place
abbrev pub built_as : Built → Answer
built_as (Ok n) = record { word = built; numbers = pos n ∷ [] }
built_as (Err r) = refused_as r
