-- Document 01's table of proved examples, P1 to P13, as one statement: what each says, in its words, beside what the page says.
use Rattle.std.specs.Prelude.{ℕ, ◌+◌, ◌/◌, ◌%◌, ◌≡◌, refl, true, false, List, [], ◌∷◌, ◌++◌, map, pos, negsuc, replicate}
use Prim.Native.String.{String}
use Rattle.words.specs.Answer.{Answer, Word, value, valued, bare, blank, refused_as, waiting}
use Rattle.words.specs.Words.{two_at, four_at, place_of}
use Rattle.decimal.specs.Text.{bytes}
use Rattle.digits.specs.Segments.{mantissa_of, exponent_of}
use Rattle.decimal.specs.Scan.{written, decimal_of, number_in}
use Rattle.decimal.specs.Examples as decimal-examples
use Rattle.bad_byte.specs.Columns.{bad_in, bad_from}
use Rattle.fields.specs.Field.{field_at, field_as}
use Rattle.plan.specs.Tables.{slot_of, other_codes, sort_of}
use Rattle.plan.specs.Plan.{total_of, sum_of, run_counts, run_lengths, first_length, spot_of, spot_from, codes_of, all_zero, zero_plan?}
use Rattle.plan.specs.Plan.{plan_good, image_good, first_codes, volume_good, leader_good, slots_good}
use Rattle.verdicts.specs.Tests.{first_fault, text_at}
use Rattle.verdicts.specs.Numbers.{numbers_tests}
use Rattle.volume.specs.Volume.{volume_record}
use Rattle.leader.specs.Leader.{leader_record}
use Rattle.image.specs.Image.{image_record, image_tests, line_tests, agree_tests}
use Rattle.bodies.specs.Bodies.{body_of, body_tests, trailer_tests}
use Rattle.bodies.specs.Named.{plan_of}
use Rattle.walk.specs.State.{fresh, good_state}
use Rattle.headers.specs.Header.{header_of, header_tests, codes_are}
use Rattle.turns.specs.Turn.{judge_of, ended_of, short_of}
use Rattle.walk.specs.Walk.{walk_of, next_of, bad_stop}
use Rattle.walk.specs.Said.{stop_as}

-- a number of several bytes, as an answer
abbrev pub counted : ℕ → Answer
counted n = record { word = value; numbers = pos n ∷ [] }

-- a refusal, and a wait
abbrev pub refusing : ℕ → ℕ → ℕ → Answer
refusing n r at = refused_as (record { number = n; «record» = r; place = at })

abbrev pub waits : ℕ → Answer
waits n = record { word = waiting; numbers = pos n ∷ [] }

-- four bytes, high byte first; blanks
abbrev pub four : ℕ → List ℕ
four n = n / 256 / 256 / 256 % 256 ∷ n / 256 / 256 % 256 ∷ n / 256 % 256 ∷ n % 256 ∷ []

abbrev pub blanks : ℕ → List ℕ
blanks n = replicate n 32

-- the first record of the listed image (L = 198, w = 3, s = 0), with its line count as written
abbrev pub descriptor : String → List ℕ
descriptor n =
    four 1 ++ (50 ∷ 192 ∷ 18 ∷ 18 ∷ []) ++ four 720
    ++ bytes "A " ++ blanks 166
    ++ bytes n ++ bytes "   198" ++ blanks 32
    ++ bytes "   2" ++ blanks 4
    ++ bytes "   1" ++ bytes "       2" ++ blanks 4
    ++ bytes "       3" ++ blanks 24
    ++ bytes "       6" ++ bytes "   0" ++ blanks 136
    ++ bytes "IU2 " ++ blanks 288

-- a line of it: its number, and left fill, data and right fill counts
abbrev pub line : ℕ → ℕ → ℕ → ℕ → List ℕ
line k left data' right =
    four (k + 1) ++ (50 ∷ 11 ∷ 18 ∷ 20 ∷ []) ++ four 198 ++ four k ++ four 1 ++ four left ++ four data' ++ four right ++ replicate 166 0

-- the image that document 01 lists
abbrev pub listed : List ℕ
listed = descriptor "     2" ++ line 1 0 3 0 ++ line 2 1 2 0

-- what a printed field says, as the field reader answers
abbrev pub says : decimal-examples.Example → Answer
says x = field_as (field_at (bytes x.text) 0 x.form)

-- P1 to P10, P9 as n, P11, P12 open and closed, P13, and the listed image itself
abbrev pub answers : List Answer
answers =
    map says decimal-examples.table
    ++ (stop_as (walk_of 4 (fresh 3) (descriptor "     0") true).stop
    ∷ counted (two_at (2 ∷ 1 ∷ []) 0)
    ∷ stop_as (walk_of 4 (fresh 1) [] false).stop
    ∷ stop_as (walk_of 4 (fresh 1) [] true).stop
    ∷ stop_as (walk_of 4 (fresh 3) (listed ++ (0 ∷ [])) true).stop
    ∷ stop_as (walk_of 4 (fresh 3) listed true).stop
    ∷ [])

-- what document 01 says that they are
abbrev pub due : List Answer
due =
    (valued (pos 90000) (pos 0)
    ∷ valued (pos 12345671234567) (pos 0)
    ∷ valued (pos 0) (pos 0)
    ∷ valued (negsuc 0) (pos 0)
    ∷ valued (negsuc 99999999999998) (pos 0)
    ∷ valued (pos 999999999999999) (pos 0)
    ∷ bare blank
    ∷ refusing 6 0 6
    ∷ valued (pos 0) (pos 0)
    ∷ valued (pos 10000000000000) (pos 2)
    ∷ [])
    ++ (refusing 7 1 180
    ∷ counted 513
    ∷ waits 12
    ∷ refusing 2 1 0
    ∷ refusing 9 4 1116
    ∷ bare Word.complete
    ∷ [])

pub p_table : answers ≡ due
unfolding bad_in bad_from written decimal_of number_in mantissa_of exponent_of two_at four_at place_of field_at slot_of other_codes sort_of total_of
    sum_of run_counts run_lengths first_length spot_of spot_from codes_of first_codes all_zero zero_plan? plan_good image_good volume_good leader_good
    slots_good first_fault text_at body_of body_tests image_record image_tests numbers_tests agree_tests line_tests volume_record leader_record
    trailer_tests plan_of good_state walk_of judge_of header_of header_tests codes_are ended_of short_of next_of bad_stop
p_table = refl
