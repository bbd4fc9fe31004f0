-- A state's numbers behind a call with room are the state's 43, and those past them stay: a state has that many.
use Prim.Native.Nat.{ℕ}
use mathlib.Core.Path.{◌≡◌, refl, sym, ap, ◌∙◌}
use mathlib.Core.List.{List, ◌++◌}
use mathlib.Core.Bool.{Bool, true}
use lib.ListN.{length, drop}
use Rattle.std.specs.Prelude.{Result, Ok, Err}
use Rattle.std.specs.Result.{result_unwrap_or}
use Rattle.words.specs.declared.Refusal.{Refusal}
use Rattle.walk.specs.State.{fresh}
use Rattle.walk.specs.Walk.{state_begun}
use Rattle.walk.specs.declared.State.{State}
use Rattle.c_state.specs.Numbers.{state_number, numbers_of}
use Rattle.c_state.proofs.ListLaws.{from_length}
use Rattle.c_answer.specs.Room.{behind}
use Rattle.c_answer.proofs.RoomLaws.{turns}

pub state_behind : (b : Bool) (st st' : State) (old x : List ℕ) → b ≡ true → st' ≡ st → x ≡ numbers_of st' ++ drop 43 old → x ≡ behind b (numbers_of st) old
unfolding numbers_of
state_behind b st st' old x h q e =
    turns b (numbers_of st ++ drop (length (numbers_of st)) old) old x h
    (e ∙ ap (λ (y : State). numbers_of y ++ drop 43 old) q ∙ ap (λ (n : ℕ). numbers_of st ++ drop n old) (sym (from_length (state_number st) 0 43)))

-- where no walk is begun, all zeros are written
pub begun_or_none : (r : Result State Refusal) → result_unwrap_or r (fresh 0) ≡ state_begun r
begun_or_none (Ok st) = refl
begun_or_none (Err x) = refl
