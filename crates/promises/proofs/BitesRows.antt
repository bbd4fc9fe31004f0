-- The promise on rows bites: our copy meets it, and a row copy that writes nothing fails it, shown on line 1 of the listed image.
use Prim.Native.Nat.{ℕ}
use mathlib.Core.Path.{◌≡◌, refl, sym, ap, ◌∙◌}
use mathlib.Core.List.{List, [], ◌∷◌}
use native.Mathlib.Omega.{arith}
use lib.ListN.{get_or}
use Rattle.words.specs.Words.{two_at, four_at, place_of}
use Rattle.digits.specs.Segments.{mantissa_of, exponent_of}
use Rattle.decimal.specs.Scan.{written, decimal_of, number_in}
use Rattle.fields.specs.Field.{field_at}
use Rattle.plan.specs.Tables.{slot_of, other_codes, sort_of}
use Rattle.plan.specs.Plan.{total_of, sum_of, run_counts, run_lengths, first_length, spot_of, spot_from, codes_of, all_zero, zero_plan?, plan_good, first_codes}
use Rattle.plan.specs.Plan.{image_good, volume_good, leader_good, slots_good}
use Rattle.verdicts.specs.Tests.{first_fault, text_at}
use Rattle.verdicts.specs.Numbers.{numbers_tests}
use Rattle.volume.specs.Volume.{volume_record}
use Rattle.leader.specs.Leader.{leader_record}
use Rattle.image.specs.Image.{image_record, image_tests, line_tests, agree_tests}
use Rattle.bodies.specs.Bodies.{body_of, body_tests, trailer_tests}
use Rattle.bodies.specs.Named.{plan_of}
use Rattle.walk.specs.State.{good_state}
use Rattle.headers.specs.Header.{header_of, header_tests, codes_are}
use Rattle.turns.specs.Turn.{judge_of, ended_of, short_of}
use Rattle.walk.specs.Walk.{walk_of, next_of, bad_stop}
use Rattle.lines.specs.View.{shown_of, found_in, line_at, line_of, view_of, sort_seen, shown_view}
use Rattle.copies.specs.Row.{samples_from, row_of}
use Rattle.promises.specs.Examples.{listed}
use Rattle.promises.specs.Shown.{LineShown}
use Rattle.promises.specs.Demands.{Copies, Keeps, copier, idler}
use Rattle.promises.proofs.LineNamed.{line_named, sort_seen_lem}
use Rattle.promises.proofs.RowNamed.{sample_named, row_kept}

-- our copy meets both promises
pub ours_copies : Copies copier
ours_copies = sample_named

pub ours_keeps : Keeps copier
ours_keeps = row_kept

-- line 1 of the listed image: three pixels, all 0
listed_shown : view_of listed 1 ≡ shown_view 912 3 0
unfolding written decimal_of number_in mantissa_of exponent_of two_at four_at place_of field_at slot_of other_codes sort_of total_of sum_of
    run_counts run_lengths
    first_length spot_of spot_from codes_of first_codes all_zero zero_plan? plan_good image_good volume_good leader_good slots_good first_fault
    text_at body_of body_tests
    image_record image_tests numbers_tests agree_tests line_tests volume_record leader_record trailer_tests plan_of good_state walk_of judge_of header_of
    header_tests codes_are ended_of short_of next_of bad_stop shown_of found_in line_at line_of view_of
listed_shown = refl

-- which are counts
listed_counts : sort_seen listed ≡ 0
unfolding written decimal_of number_in mantissa_of exponent_of two_at four_at place_of field_at slot_of other_codes sort_of total_of sum_of
    run_counts run_lengths
    first_length spot_of spot_from codes_of first_codes all_zero zero_plan? plan_good image_good volume_good leader_good slots_good first_fault
    text_at body_of body_tests
    image_record image_tests numbers_tests agree_tests line_tests volume_record leader_record trailer_tests plan_of good_state walk_of judge_of header_of
    header_tests codes_are ended_of short_of next_of bad_stop sort_seen
listed_counts = refl

listed_row_lem : row_of listed 1 (7 ∷ 7 ∷ 7 ∷ []) ≡ 0 ∷ 0 ∷ 0 ∷ []
unfolding written decimal_of number_in mantissa_of exponent_of two_at four_at place_of field_at slot_of other_codes sort_of total_of sum_of
    run_counts run_lengths
    first_length spot_of spot_from codes_of first_codes all_zero zero_plan? plan_good image_good volume_good leader_good slots_good first_fault
    text_at body_of body_tests
    image_record image_tests numbers_tests agree_tests line_tests volume_record leader_record trailer_tests plan_of good_state walk_of judge_of header_of
    header_tests codes_are ended_of short_of next_of bad_stop shown_of found_in line_at line_of view_of sort_seen samples_from row_of
listed_row_lem = refl

-- a row copy that writes nothing leaves the sevens
pub copies_nothing : Copies idler → ⊥
copies_nothing c = go ((line_named listed 1 912 3 0).0 listed_shown)
  where
    go : LineShown listed 1 912 3 0 → ⊥
    go (p, t, (a, n, l)) =
        let row : List ℕ = 7 ∷ 7 ∷ 7 ∷ [] in
        let counts = sym (sort_seen_lem listed p t.first) ∙ listed_counts in
        let his = (c listed 1 p row t counts (omega arith)).1 0 (omega arith) in
        let ours = (sample_named listed 1 p row t counts (omega arith)).1 0 (omega arith) in
        let e : ◌≡◌ {A = ℕ} 7 0 = his ∙ sym ours ∙ ap (λ (x : List ℕ). get_or x 0 0) listed_row_lem in
        omega arith
