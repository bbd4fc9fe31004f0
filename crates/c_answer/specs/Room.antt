-- What every call over the C boundary answers and leaves behind, for arrays of any length. Assumes nothing.
use Rattle.std.specs.Prelude.{ℕ, List, ◌++◌, Bool, true, false, leb, length, drop}
use Rattle.words.specs.Tests.{pick}
use Rattle.words.specs.Answer.{Answer}
use Rattle.c_answer.specs.Reply.{five_of, reply_of}

-- an array has room for n numbers
abbrev pub fits : ℕ → List ℕ → Bool
fits n l = leb n (length l)

-- a call answers 1 where there is room, else 0
abbrev pub answered : Bool → ℕ
answered true = 1
answered false = 0

-- an array behind a call: where there is room, these numbers, and those past them stay; else all stay
abbrev pub behind : Bool → List ℕ → List ℕ → List ℕ
behind ok ns old = pick ok (ns ++ drop (length ns) old) old

-- the five numbers of an answer
abbrev pub said : Answer → ℕ → List ℕ
said x n = five_of (reply_of x n)

-- an answer array alone, behind a call that said this
abbrev pub answer_of : Answer → List ℕ → List ℕ
answer_of x a = behind (fits 5 a) (said x 0) a
