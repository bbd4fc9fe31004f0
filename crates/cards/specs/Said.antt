-- The answer of the card reader in the words of document 02. Assumes nothing.
use Rattle.std.specs.Prelude.{[], ◌∷◌, pos, Ok, Err}
use Rattle.words.specs.Answer.{Answer, refused_as, card}
use Rattle.cards.specs.Check.{Checked}

-- a card: its lines and its leader entries; or refused with number, record and place
abbrev pub checked_as : Checked → Answer
checked_as (Ok c) = record { word = card; numbers = pos c.lines ∷ pos c.entries ∷ [] }
checked_as (Err r) = refused_as r
