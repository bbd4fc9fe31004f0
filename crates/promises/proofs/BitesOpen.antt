-- Demand 3 bites: our walk meets it, a walk that always waits fails it on a whole record that no file begins with, and one that always refuses or
-- always pauses fails it on the empty file.
use Prim.Native.Nat.{ℕ, ◌<◌, ◌+◌}
use mathlib.Core.Path.{◌≡◌, refl}
use mathlib.Core.Bool.{true, false}
use mathlib.Core.List.{List, [], ◌∷◌}
use mathlib.Core.Logic.{inl, inr, ⊎_elim}
use native.Mathlib.Omega.{arith}
use Rattle.words.specs.declared.Refusal.{Refusal}
use Rattle.words.specs.Words.{two_at, four_at, place_of}
use Rattle.plan.specs.Tables.{other_codes}
use Rattle.plan.specs.Plan.{total_of, sum_of, run_counts, run_lengths, first_length, spot_of, codes_of, all_zero, zero_plan?, records_most, first_codes}
use Rattle.verdicts.specs.Tests.{first_fault}
use Rattle.walk.specs.State.{fresh, good_state}
use Rattle.headers.specs.Header.{header_of, header_tests}
use Rattle.turns.specs.Turn.{judge_of}
use Rattle.walk.specs.Walk.{walk_of}
use Rattle.turns.specs.declared.Stop.TheVariants.{Pause, Complete}
use Rattle.promises.specs.Rules.{trailer}
use Rattle.promises.specs.Arriving.{begun, Starts, Waits, Refuses, AtRecordEnd}
use Rattle.promises.specs.Bytes.{Bytes}
use Rattle.promises.specs.Demands.{Demand3, refuser, waiter, pauser}
use Rattle.promises.proofs.Bites.{empty_planned}
use Rattle.promises.proofs.Arriving.{refused_none}
use Rattle.promises.proofs.Accepts.{complete_accepted}
use Rattle.promises.proofs.Completed.{some_file}
use Rattle.promises.proofs.Ends.{arriving}
use Rattle.promises.proofs.PlanNamed.{enough_planned}

pub ours_open : Demand3 walk_of
ours_open kind bs n p a = arriving kind begun n bs (⊎_elim (λ l. enough_planned kind n bs false l) (λ h. h) p) a

-- a whole record of twelve bytes with the sequence number 7
strange : List ℕ
strange = 0 ∷ 0 ∷ 0 ∷ 7 ∷ 63 ∷ 192 ∷ 18 ∷ 18 ∷ 0 ∷ 0 ∷ 0 ∷ 12 ∷ []

strange_end : AtRecordEnd trailer strange
unfolding strange four_at two_at place_of
strange_end = (strange ∷ [], refl, (omega arith, (inl refl, tt)))

strange_refused : Refuses (walk_of 9 (fresh 4) strange false).stop
unfolding strange four_at two_at place_of other_codes total_of sum_of run_counts run_lengths first_length spot_of codes_of first_codes all_zero
    zero_plan? good_state walk_of
    judge_of header_of header_tests first_fault
strange_refused = (record { number = 3; «record» = 1; place = 0 }, refl)

strange_none : Starts trailer strange → ⊥
strange_none = refused_none trailer begun 9 strange strange_refused

pub always_waiting_open : (m : ℕ) → Demand3 (waiter m) → ⊥
always_waiting_open m d = strange_none ((d trailer strange 9 (inr (λ e. cc)) strange_end).0.0 (m, refl))

-- some trailer there is, and it begins with nothing
empty_starts : Starts trailer []
empty_starts = go (some_file 4 (omega arith) (omega arith))
  where
    go : (ys : List ℕ) × Bytes ys × ((n : ℕ) → records_most + 1 < n → (walk_of n (fresh 4) ys true).stop ≡ Complete) → Starts trailer []
    go (ys, by, c) = (ys, by, complete_accepted trailer ys (records_most + 2) (c (records_most + 2) (omega arith)))

pub always_refusing_open : (r : Refusal) → Demand3 (refuser r) → ⊥
always_refusing_open r d =
    (d trailer [] 9 (inr (λ e. cc)) ([], refl, tt)).1.0 (r, refl) empty_starts

pub always_pausing_open : Demand3 pauser → ⊥
always_pausing_open d = go ((d trailer [] 9 (inl empty_planned) ([], refl, tt)).0.1 empty_starts)
  where
    go : Waits Pause → ⊥
    go (n, e) = cc
