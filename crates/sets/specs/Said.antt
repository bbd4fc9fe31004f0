-- The answer of the set check in the words of document 01. Assumes nothing.
use Rattle.std.specs.Prelude.{Ok, Err}
use Rattle.words.specs.Answer.{Answer, Word, bare, refused_as}
use Rattle.sets.specs.Set.{Agreement}

-- agrees; or refused with number, record and place
abbrev pub agreement_as : Agreement → Answer
agreement_as (Ok u) = bare Word.agrees
agreement_as (Err r) = refused_as r
