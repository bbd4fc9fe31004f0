-- The card builder (document 02, No. 1): the bytes that it writes for an image and its leader, and its answer. Assumes nothing.
use Rattle.std.specs.Prelude.{ℕ, zero, suc, ◌+◌, ◌*◌, ◌%◌, ◌≤◌, List, [], ◌∷◌, ◌++◌, true, ltb, length, Result, Ok, Err}
use Rattle.words.specs.Tests.{pick}
use Rattle.words.specs.Words.{four_at, place_of}
use Rattle.words.specs.Answer.{bare_refusal}
use Rattle.words.specs.declared.Refusal.{Refusal}
use Rattle.writing.specs.Writing.{written, four_of}
use Rattle.plan.specs.Plan.{image, leader, run_counts, run_lengths, Small, total_of, due_of}
use Rattle.plan.specs.declared.Plan.{Plan}
use Rattle.walk.specs.State.{fresh}
use Rattle.walk.specs.Walk.{walk_of}
use Rattle.turns.specs.declared.Stop.{Stop}
use Rattle.turns.specs.declared.Stop.TheVariants.{Wait, Pause, Complete, Refused}
use Rattle.walk.specs.declared.Walked.{Walked}

-- how many bytes the card has; or why there is none
abbrev pub Built : Type 0
Built = Result ℕ Refusal

-- the closed walk of a whole file: its budget is one more than the most records that a plan can have
abbrev pub closed : ℕ → List ℕ → Walked
closed kind bs = walk_of 17000002 (fresh kind) bs true

-- what a closed walk names: its own refusal, or the plan
abbrev pub named_behind : Stop → Plan → Result Plan Refusal
named_behind (Refused r) p = Err r
named_behind (Wait n) p = Ok p
named_behind Pause p = Ok p
named_behind Complete p = Ok p

abbrev pub named_by : Walked → Result Plan Refusal
named_by w = named_behind w.stop w.state.plan

-- ---- the entries' bytes

-- kind 1: n, L, w, d
abbrev pub first_bytes : Plan → List ℕ
first_bytes p = 1 ∷ ((four_of p.n ++ four_of p.l) ++ (four_of p.w ++ four_of p.d))

-- kind 2: line number, left fill, data count
abbrev pub line_bytes : ℕ → ℕ → ℕ → List ℕ
line_bytes k left data' = 2 ∷ (four_of k ++ (four_of left ++ four_of data'))

-- kind 3: the leader record's ordinal in one byte, start, length
abbrev pub leader_bytes : ℕ → ℕ → ℕ → List ℕ
leader_bytes k start long = 3 ∷ k % 256 ∷ (four_of start ++ four_of long)

-- m lines more behind k, whose records start at that place of the image and are l bytes each: left fill and data count as each record says them
unfoldable pub lines_bytes : ℕ → ℕ → ℕ → ℕ → List ℕ → List ℕ
lines_bytes zero k at l bs = []
lines_bytes (suc m) k at l bs = line_bytes (suc k) (four_at bs (at + place_of 21)) (four_at bs (at + place_of 25)) ++ lines_bytes m (suc k) (at + l) l bs

-- m leader records more behind k: start and length as the plan has them due
unfoldable pub leaders_bytes : ℕ → ℕ → Plan → List ℕ
leaders_bytes zero k q = []
leaders_bytes (suc m) k q = leader_bytes (suc k) (due_of leader q k).start (due_of leader q k).length ++ leaders_bytes m (suc k) q

-- the card of an image with plan p and a leader with plan q, and how long it is
unfoldable pub card_bytes : Plan → Plan → List ℕ → List ℕ
card_bytes p q bs = first_bytes p ++ (lines_bytes p.n 0 720 p.l bs ++ leaders_bytes (total_of leader q) 0 q)

abbrev pub card_long : Plan → Plan → ℕ
card_long p q = 17 + 13 * p.n + 10 * total_of leader q

-- ---- the answer

-- 37 where the card does not fit m bytes
unfoldable pub fitted_of : Plan → Plan → ℕ → Built
fitted_of p q m = pick (ltb m (card_long p q)) (Err (bare_refusal 37)) (Ok (card_long p q))

-- the lent bytes behind it: the card, and those past it stay; where it does not fit all stay
unfoldable pub fitted_card : Plan → Plan → List ℕ → List ℕ → List ℕ
fitted_card p q bs out = pick (ltb (length out) (card_long p q)) out (written out 0 (card_bytes p q bs))

-- a file's own refusal first
abbrev pub built_behind : Stop → Built → Built
built_behind (Refused r) x = Err r
built_behind (Wait n) x = x
built_behind Pause x = x
built_behind Complete x = x

-- and then nothing is written
abbrev pub card_behind : Stop → List ℕ → List ℕ → List ℕ
card_behind (Refused r) old new = old
card_behind (Wait n) old new = new
card_behind Pause old new = new
card_behind Complete old new = new

-- the plans that the two files name
abbrev pub image_plan : List ℕ → Plan
image_plan bs = (closed image bs).state.plan

abbrev pub leader_plan : List ℕ → Plan
leader_plan ls = (closed leader ls).state.plan

-- the image's refusal, the leader's, then 37; else how long the card is, for m lent bytes
unfoldable pub built_of : List ℕ → List ℕ → ℕ → Built
built_of bs ls m = built_behind (closed image bs).stop (built_behind (closed leader ls).stop (fitted_of (image_plan bs) (leader_plan ls) m))

-- the lent bytes behind the call
unfoldable pub card_of : List ℕ → List ℕ → List ℕ → List ℕ
card_of bs ls out =
    card_behind (closed image bs).stop out (card_behind (closed leader ls).stop out (fitted_card (image_plan bs) (leader_plan ls) bs out))

-- plans small enough that no place of the files or of the card passes 64 bits
pub record Planned (p q : Plan) : Type 0 where
  pub lines : p.n ≤ 999999
  pub short : p.l ≤ 99999999
  pub small : Small (run_counts leader q) (run_lengths leader q)
