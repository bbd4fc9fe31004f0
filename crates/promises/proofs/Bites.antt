-- The demands bite: our walk meets them, and each of document 01's wrong programs fails the one named for it, shown on the listed image and on the empty file.
use Prim.Native.Nat.{ℕ, ◌<◌}
use mathlib.Core.Path.{◌≡◌, refl}
use mathlib.Core.Bool.{true}
use mathlib.Core.List.{List, [], ◌++◌}
use native.Mathlib.Omega.{arith}
use Rattle.words.specs.declared.Refusal.{Refusal}
use Rattle.words.specs.Words.{two_at, four_at, place_of}
use Rattle.digits.specs.Segments.{mantissa_of, exponent_of}
use Rattle.decimal.specs.Scan.{written, decimal_of, number_in}
use Rattle.fields.specs.Field.{field_at}
use Rattle.plan.specs.Tables.{slot_of, other_codes, sort_of}
use Rattle.plan.specs.Plan.{total_of, sum_of, run_counts, run_lengths, first_length, spot_of}
use Rattle.plan.specs.Plan.{spot_from, codes_of, all_zero, zero_plan?, plan_good, image_good, first_codes}
use Rattle.plan.specs.Plan.{volume_good, leader_good, slots_good}
use Rattle.verdicts.specs.Tests.{first_fault, text_at}
use Rattle.verdicts.specs.Numbers.{numbers_tests}
use Rattle.volume.specs.Volume.{volume_record}
use Rattle.leader.specs.Leader.{leader_record}
use Rattle.image.specs.Image.{image_record, image_tests, line_tests, agree_tests}
use Rattle.bodies.specs.Bodies.{body_of, body_tests, trailer_tests}
use Rattle.bodies.specs.Named.{plan_of}
use Rattle.walk.specs.State.{fresh, good_state}
use Rattle.headers.specs.Header.{header_of, header_tests, codes_are}
use Rattle.turns.specs.Turn.{judge_of, ended_of, short_of}
use Rattle.walk.specs.Walk.{walk_of, next_of, bad_stop}
use Rattle.turns.specs.declared.Stop.TheVariants.{Complete}
use Rattle.walk.specs.declared.Walked.{Walked}
use Rattle.promises.specs.Rules.{image, trailer}
use Rattle.promises.specs.Newest.{Accepted}
use Rattle.promises.specs.Examples.{descriptor, line, listed}
use Rattle.promises.specs.Demands.{Walk, planned_total, Demand2, Counted, refuser, waiter, fixed, waver, boaster}
use Rattle.promises.proofs.Accepts.{accepts, complete_accepted}
use Rattle.promises.proofs.Counted.{counted}

-- our walk meets them
pub ours : Demand2 walk_of
ours kind bs n h = accepts kind bs n h

pub ours_counted : Counted walk_of
ours_counted n st bs c = counted n st bs c

-- the listed image is an accepted file, and the empty file is no trailer
listed_complete : (walk_of 4 (fresh 3) listed true).stop ≡ Complete
unfolding written decimal_of number_in mantissa_of exponent_of two_at four_at place_of field_at slot_of other_codes sort_of total_of sum_of
    run_counts run_lengths
    first_length spot_of spot_from codes_of first_codes all_zero zero_plan? plan_good image_good volume_good leader_good slots_good first_fault
    text_at body_of body_tests
    image_record image_tests numbers_tests agree_tests line_tests volume_record leader_record trailer_tests plan_of good_state walk_of judge_of header_of
    header_tests codes_are ended_of short_of next_of bad_stop
listed_complete = refl

pub listed_accepted : Accepted image listed
listed_accepted = complete_accepted image listed 4 listed_complete

-- four is above the three records that it plans
listed_planned : planned_total image listed < 4
unfolding written decimal_of number_in mantissa_of exponent_of two_at four_at place_of field_at total_of sum_of run_counts first_length plan_of
listed_planned = omega arith

-- a walk that never says complete fails demand 2
never_complete : (W : Walk) → ((W 4 (fresh 3) listed true).stop ≡ Complete → ⊥) → Demand2 W → ⊥
never_complete W h d = h ((d image listed 4 listed_planned).1 listed_accepted)

pub always_refusing : (r : Refusal) → Demand2 (refuser r) → ⊥
always_refusing r = never_complete (refuser r) (λ e. cc)

pub always_waiting : (m : ℕ) → Demand2 (waiter m) → ⊥
always_waiting m = never_complete (waiter m) (λ e. cc)

-- no trailer is empty
empty_refused : (walk_of 9 (fresh 4) [] true).stop ≡ Complete → ⊥
unfolding total_of sum_of run_counts run_lengths first_length spot_of all_zero zero_plan? good_state walk_of judge_of short_of
empty_refused e = cc

-- a trailer is one record, so nine is above what the empty file plans
pub empty_planned : planned_total trailer [] < 9
unfolding total_of sum_of run_counts first_length plan_of
empty_planned = omega arith

pub one_fixed_answer : (w : Walked) → Demand2 (fixed w) → ⊥
one_fixed_answer w d =
    let c = (d image listed 4 listed_planned).1 listed_accepted in
    empty_refused ((accepts trailer [] 9 empty_planned).1 ((d trailer [] 9 empty_planned).0 c))

-- ---- line 1 checked and the rest waved through: the listed image with a wrong number in its last line

wrong : List ℕ
wrong = descriptor "     2" ++ line 1 0 3 0 ++ line 7 1 2 0

wrong_refused : (walk_of 4 (fresh 3) wrong true).stop ≡ Complete → ⊥
unfolding wrong written decimal_of number_in mantissa_of exponent_of two_at four_at place_of field_at slot_of other_codes sort_of total_of sum_of
    run_counts run_lengths
    first_length spot_of spot_from codes_of first_codes all_zero zero_plan? plan_good image_good volume_good leader_good slots_good first_fault
    text_at body_of body_tests
    image_record image_tests numbers_tests agree_tests line_tests volume_record leader_record trailer_tests plan_of good_state walk_of judge_of header_of
    header_tests codes_are ended_of short_of next_of bad_stop
wrong_refused e = cc

wrong_planned : planned_total image wrong < 4
unfolding wrong written decimal_of number_in mantissa_of exponent_of two_at four_at place_of field_at total_of sum_of run_counts first_length plan_of
wrong_planned = omega arith

wrong_waved : (waver 4 (fresh 3) wrong true).stop ≡ Complete
unfolding wrong waver written decimal_of number_in mantissa_of exponent_of two_at four_at place_of field_at slot_of other_codes sort_of total_of
    sum_of run_counts
    run_lengths first_length spot_of spot_from codes_of first_codes all_zero zero_plan? plan_good image_good volume_good leader_good slots_good
    first_fault text_at body_of
    body_tests image_record image_tests numbers_tests agree_tests line_tests volume_record leader_record trailer_tests plan_of good_state walk_of
    judge_of header_of
    header_tests codes_are ended_of short_of next_of bad_stop
wrong_waved = refl

pub lines_waved_through : Demand2 waver → ⊥
lines_waved_through d = wrong_refused ((accepts image wrong 4 wrong_planned).1 ((d image wrong 4 wrong_planned).0 wrong_waved))

-- ---- a made-up count: with a budget of 0 nothing is passed

pub made_up_count : Counted boaster → ⊥
unfolding walk_of
made_up_count k = let z = k 0 (fresh 0) [] true in let y = counted 0 (fresh 0) [] true in omega arith
