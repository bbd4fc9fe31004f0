-- The set check (document 01, "Lines, rows, sets"): a closed directory against a list of record counts in pointer order. Assumes nothing.
use Rattle.std.specs.Prelude.{ℕ, ◌+◌, ◌*◌, List, [], ◌∷◌, true, eqb, length, Result, Ok, Err}
use Rattle.words.specs.Tests.{pick}
use Rattle.words.specs.Words.{place_of}
use Rattle.words.specs.Answer.{refusal_at}
use Rattle.words.specs.declared.Refusal.{Refusal}
use Rattle.decimal.specs.declared.Form.TheVariants.{I8}
use Rattle.plan.specs.Plan.{volume}
use Rattle.verdicts.specs.Numbers.{number_at}
use Rattle.walk.specs.State.{fresh}
use Rattle.walk.specs.Walk.{walk_of}
use Rattle.turns.specs.declared.Stop.{Stop}
use Rattle.turns.specs.declared.Stop.TheVariants.{Wait, Pause, Complete, Refused}
use Rattle.walk.specs.declared.Walked.{Walked}

-- the set agrees with its directory, or why not
abbrev pub Agreement : Type 0
Agreement = Result (Unit {0}) Refusal

-- 12: the set differs from its directory, at that place in it
abbrev pub differs : ℕ → Agreement
differs at = Err (refusal_at 12 at)

-- the byte of pointer p's record count (101 in its record, which starts at 360p), and the count that stands there
abbrev pub count_byte : ℕ → ℕ
count_byte p = 360 * p + 101

unfoldable pub count_of : List ℕ → ℕ → ℕ
count_of bs p = number_at bs (count_byte p) I8

-- the first pointer, from p on, whose count differs
unfoldable pub compare_from : ℕ → List ℕ → List ℕ → Agreement
compare_from p bs [] = Ok tt
compare_from p bs (c ∷ cs) = pick (eqb c (count_of bs p)) (compare_from (p + 1) bs cs) (differs (place_of (count_byte p)))

-- a list of the wrong length, at 160; else the first pointer whose count differs, at 360p + 100
unfoldable pub compare_of : ℕ → List ℕ → List ℕ → Agreement
compare_of m bs cs = pick (eqb (length cs) m) (compare_from 1 bs cs) (differs (place_of 161))

-- the directory's own refusal first
abbrev pub behind_walk : Stop → Agreement → Agreement
behind_walk (Refused r) a = Err r
behind_walk (Wait n) a = a
behind_walk Pause a = a
behind_walk Complete a = a

-- the directory's walk, closed: of at most 1 + 6 + 1 records, so a budget of 9 is always enough
abbrev pub directory : List ℕ → Walked
directory bs = walk_of 9 (fresh volume) bs true

unfoldable pub set_of : List ℕ → List ℕ → Agreement
set_of bs cs = behind_walk (directory bs).stop (compare_of (directory bs).state.plan.pointers bs cs)
