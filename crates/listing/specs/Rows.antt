-- One turn of the listing (document 01, "Lines, rows, sets"): what it says of the state, the bytes held of the next record, and whether the input has
-- ended. Assumes nothing.
use Rattle.std.specs.Prelude.{ℕ, List, Bool, false, eqb, ltb}
use Rattle.words.specs.Tests.{pick}
use Rattle.words.specs.Words.{four_at, place_of}
use Rattle.walk.specs.State.{start_of}
use Rattle.walk.specs.Walk.{walk_of}
use Rattle.walk.specs.declared.State.{State}
use Rattle.turns.specs.declared.Stop.{Stop}
use Rattle.turns.specs.declared.Stop.TheVariants.{Wait, Pause, Complete as Complete', Refused as Refused'}
use Rattle.walk.specs.declared.Walked.{Walked}
use Rattle.rows.specs.declared.Row.{Row}
use Rattle.rows.specs.declared.Row.TheVariants.{Image, Line, TooLong, Complete, Refused}
use Rattle.listing.specs.declared.Say.{Say}
use Rattle.listing.specs.declared.Say.TheVariants.{Want, Next, Last}
use Rattle.listing.specs.declared.Told.{Told}

-- the longest record that is held
abbrev pub longest : ℕ
longest = 32768

-- the row of a record that has passed: of the first, lines and pixels; of a line, its number and its left, data and right counts
unfoldable pub passed_row : State → List ℕ → State → Row
passed_row st record' after =
    pick (eqb st.passed 0) (Image after.plan.n after.plan.w)
    (Line st.passed (four_at record' (place_of 21)) (four_at record' (place_of 25)) (four_at record' (place_of 29)))

-- how many bytes are asked for: those missing; behind the last record one, to see whether more come
unfoldable pub wanted : ℕ → ℕ
wanted n = pick (eqb n 0) 1 n

-- what is said of a walk by one record: more bytes, a row, or the last row
abbrev pub say_of : State → List ℕ → State → Stop → Say
say_of st held after (Wait n) = Want (wanted n)
say_of st held after Pause = Next (passed_row st held after)
say_of st held after Complete' = Last (Complete after.passed (start_of after))
say_of st held after (Refused' r) = Last (Refused r)

-- behind the first record, L over 32,768
unfoldable pub too_long : State → Bool
too_long st = pick (eqb st.passed 0) false (ltb longest st.plan.l)

abbrev pub told_by : State → List ℕ → Walked → Told
told_by st held w = record { state = w.state; say = say_of st held w.state w.stop }

unfoldable pub told_of : State → List ℕ → Bool → Told
told_of st held closed = pick (too_long st) (record { state = st; say = Last TooLong }) (told_by st held (walk_of 1 st held closed))
