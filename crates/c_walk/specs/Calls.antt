-- What a call of the walk answers and leaves behind, for arrays of any length: state s and answer a. Assumes nothing.
use Rattle.std.specs.Prelude.{ℕ, List, Bool, not, eqb}
use Rattle.words.specs.Tests.{pick, both_of}
use Rattle.walk.specs.State.{start_of}
use Rattle.walk.specs.Walk.{begin_of, walk_of, state_begun}
use Rattle.walk.specs.Said.{stop_as, beginning_as}
use Rattle.walk.specs.declared.Walked.{Walked}
use Rattle.c_state.specs.Numbers.{state_in, numbers_of}
use Rattle.c_answer.specs.Room.{fits, behind, said}

-- a state and an answer array have room
abbrev pub room : List ℕ → List ℕ → Bool
room state answer = both_of (fits 43 state) (fits 5 answer)

-- the walk from the state that the numbers are; closed is 0 or not 0
abbrev pub walked_of : List ℕ → List ℕ → ℕ → ℕ → Walked
walked_of state bytes closed budget = walk_of budget (state_in state) bytes (not (eqb closed 0))

-- why it stopped, and how many records it passed
abbrev pub said_walk : Walked → List ℕ
said_walk w = said (stop_as w.stop) w.count

-- the place of the next record's first byte; 0 for a short state too
abbrev pub start_in : List ℕ → ℕ
start_in state = pick (fits 43 state) (start_of (state_in state)) 0

-- ---- state and answer behind each call

-- the state behind `sbg_begin`
abbrev pub begun_state : ℕ → List ℕ → List ℕ → List ℕ
begun_state kind s a = behind (room s a) (numbers_of (state_begun (begin_of kind))) s

-- the answer behind `sbg_begin`
abbrev pub begun_answer : ℕ → List ℕ → List ℕ → List ℕ
begun_answer kind s a = behind (room s a) (said (beginning_as (begin_of kind)) 0) a

-- the state behind `sbg_walk`
abbrev pub walked_state : ℕ → ℕ → List ℕ → List ℕ → List ℕ → List ℕ
walked_state closed budget bytes s a = behind (room s a) (numbers_of (walked_of s bytes closed budget).state) s

-- the answer behind `sbg_walk`
abbrev pub walked_answer : ℕ → ℕ → List ℕ → List ℕ → List ℕ → List ℕ
walked_answer closed budget bytes s a = behind (room s a) (said_walk (walked_of s bytes closed budget)) a
