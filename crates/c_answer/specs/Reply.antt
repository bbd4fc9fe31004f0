-- An answer as it crosses the C boundary, in the order of include/seobangyu.h: tag, a, b, c, count. Assumes nothing.
use Rattle.std.specs.Prelude.{ℕ, zero, suc, List, [], ◌∷◌, ℤ, pos, negsuc}
use Rattle.words.specs.Answer.{Answer, Word, refused, waiting, paused, complete, begun, value, blank, badly, shown, copied, agrees, built, card}
use Rattle.words.specs.Answer.{counted, patterned, powered}
use Rattle.c_answer.specs.declared.Reply.{Reply}

-- the tag of each word; `badly` has none of its own: no answer of the boundary is that, since a field's refusal 6 says it
abbrev pub tag_for : Word → ℕ
tag_for refused = 0
tag_for waiting = 1
tag_for paused = 2
tag_for complete = 3
tag_for begun = 4
tag_for value = 5
tag_for blank = 6
tag_for shown = 7
tag_for copied = 8
tag_for agrees = 9
tag_for built = 10
tag_for card = 11
tag_for counted = 12
tag_for patterned = 13
tag_for powered = 14
tag_for badly = 0

-- a whole number that is not below 0; no answer has a number below 0
abbrev pub whole : ℤ → ℕ
whole (pos n) = n
whole (negsuc n) = 0

-- number i of an answer; 0 where it has no such number
abbrev pub number_of : List ℤ → ℕ → ℕ
number_of [] i = 0
number_of (x ∷ xs) zero = whole x
number_of (x ∷ xs) (suc i) = number_of xs i

-- the answer as C gets it: what document 01 says of it, and how many records a walk passed
abbrev pub reply_of : Answer → ℕ → Reply
reply_of x n =
    record { tag = tag_for x.word; a = number_of x.numbers 0; b = number_of x.numbers 1; c = number_of x.numbers 2; count = n }

-- its five numbers in the order of include/seobangyu.h
unfoldable pub five_of : Reply → List ℕ
five_of t = t.tag ∷ t.a ∷ t.b ∷ t.c ∷ t.count ∷ []
