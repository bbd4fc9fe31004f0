-- What a call leaves behind where there is room, by the lengths of its arrays.
use Prim.Native.Nat.{ℕ, ◌≤◌}
use mathlib.Core.Path.{◌≡◌, sym, ap, ◌∙◌}
use mathlib.Core.List.{List, ◌++◌}
use mathlib.Core.Bool.{Bool, true}
use lib.Dec.{leb}
use lib.ListN.{length, drop}
use borrow.Author.Tests.{le-leb}
use Rattle.words.specs.Tests.{pick, both_of}
use Rattle.words.specs.Answer.{Answer}
use Rattle.words.proofs.Laws.{both_make, pick_true}
use Rattle.c_answer.specs.Reply.{five_of, reply_of}
use Rattle.c_answer.specs.Room.{behind, answer_of}
use Rattle.c_answer.specs.declared.Reply.{Reply}

-- two arrays have room, by their lengths
module _ (a b m n : ℕ) where
  pub room_yes : a ≤ m → b ≤ n → both_of (leb a m) (leb b n) ≡ true
  room_yes h l = both_make _ _ (le-leb a m h) (le-leb b n l)

-- an array behind a call
pub turns : {A : Type 0} (b : Bool) (new old x : A) → b ≡ true → x ≡ new → x ≡ pick b new old
turns b new old x h e = e ∙ sym (pick_true b new old h)

-- an answer's numbers, where there is room
pub answer_behind : (b : Bool) (t t' : Reply) (old x : List ℕ) → b ≡ true → t' ≡ t → x ≡ five_of t' ++ drop 5 old → x ≡ behind b (five_of t) old
unfolding five_of
answer_behind b t t' old x h q e = turns b (five_of t ++ drop 5 old) old x h (e ∙ ap (λ (y : Reply). five_of y ++ drop 5 old) q)

-- the same for a call that hands back an answer alone: the words that f has for what was found
pub answer_alone : {A : Type 0} (f : A → Answer) (y z : A) (t : Reply) (old l : List ℕ) → leb 5 (length old) ≡ true → y ≡ z → t ≡ reply_of (f y) 0
    → l ≡ five_of t ++ drop 5 old → l ≡ answer_of (f z) old
answer_alone {A = A} f y z t old l h p q e =
    answer_behind (leb 5 (length old)) (reply_of (f z) 0) t old l h (q ∙ ap (λ (x : A). reply_of (f x) 0) p) e
