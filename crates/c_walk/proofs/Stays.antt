-- A state that the walk refuses stays as it was handed in: the walk does not move it, and its numbers are those given.
use Prim.Native.Nat.{ℕ}
use mathlib.Core.Path.{◌≡◌, refl, ap, ◌∙◌}
use mathlib.Core.List.{List, ◌++◌}
use mathlib.Core.Bool.{Bool, true, false, not}
use lib.Dec.{leb, eqb}
use borrow.Author.Tests.{leb-true}
use lib.ListN.{length, drop}
use Rattle.words.proofs.Laws.{both_l, pick_true, pick_false}
use Rattle.walk.specs.State.{good_state}
use Rattle.walk.specs.declared.Walked.{Walked}
use Rattle.walk.proofs.LoopLaws.{walk_bad}
use Rattle.c_state.specs.Numbers.{numbers_of, state_in}
use Rattle.c_state.proofs.Back.{same_numbers}
use Rattle.c_walk.specs.Calls.{room, walked_of, walked_state}

-- 11 leaves the numbers given, all of them
pub bad_stays : (closed budget : ℕ) (bytes s a : List ℕ) → good_state (state_in s) ≡ false → walked_state closed budget bytes s a ≡ s
bad_stays closed budget bytes s a bad = go (room s a) refl
  where
    left : Walked → List ℕ
    left w = numbers_of w.state ++ drop (length (numbers_of w.state)) s

    go : (b : Bool) → room s a ≡ b → walked_state closed budget bytes s a ≡ s
    go true e =
        pick_true (room s a) (left (walked_of s bytes closed budget)) s e
        ∙ ap left (walk_bad (state_in s) bytes (not (eqb closed 0)) budget bad)
        ∙ same_numbers s (leb-true 43 (length s) (both_l (leb 43 (length s)) (leb 5 (length a)) e))
    go false e = pick_false (room s a) (left (walked_of s bytes closed budget)) s e
