-- What a call on a card leaves behind beside its answer, for arrays of any length: the lent card, the list of numbers, with answer a. Assumes nothing.
use Rattle.std.specs.Prelude.{ℕ, List, length}
use Rattle.words.specs.Tests.{pick}
use Rattle.words.specs.Answer.{Answer}
use Rattle.cards.specs.Check.{list_of}
use Rattle.card_build.specs.Build.{built_of, card_of}
use Rattle.card_build.specs.Said.{built_as}
use Rattle.c_answer.specs.Room.{fits}

-- what `sbg_card_build` says
abbrev pub build_says : List ℕ → List ℕ → List ℕ → Answer
build_says image leader card = built_as (built_of image leader (length card))

-- the lent bytes behind it
abbrev pub card_behind : List ℕ → List ℕ → List ℕ → List ℕ → List ℕ
card_behind image leader card a = pick (fits 5 a) (card_of image leader card) card

-- the list behind `sbg_card_numbers`
abbrev pub numbers_behind : List ℕ → List ℕ → List ℕ → List ℕ
numbers_behind card numbers a = pick (fits 5 a) (list_of card numbers) numbers
