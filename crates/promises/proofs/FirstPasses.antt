-- A first record of the rules passes, and the plan behind it has the numbers that the rules name in it: the other way of `first_passed`.
use Prim.Native.Nat.{ℕ, ◌+◌, ◌≤◌}
use mathlib.Core.Path.{◌≡◌, ap, ◌∙◌}
use mathlib.Core.List.{List}
use mathlib.Core.Bool.{Bool, true}
use native.Mathlib.Omega.{arith}
use lib.ListN.{length, take, drop, length-append, take-append-drop}
use Rattle.std.specs.Prelude.{Ok}
use Rattle.plan.specs.Plan.{zero_plan, first_length, spot_of}
use Rattle.plan.specs.declared.Plan.{Plan}
use Rattle.walk.specs.State.{fresh, good_state, next_due}
use Rattle.walk.specs.Walk.{turn_of, next_of, walk_of}
use Rattle.walk.specs.declared.State.{State}
use Rattle.turns.specs.declared.Stop.TheVariants.{Pause}
use Rattle.walk.specs.declared.Walked.{Walked}
use Rattle.walk.proofs.LoopLaws.{walk_pause, walk_pass}
use Rattle.walk.proofs.TurnLaws.{good_next}
use Rattle.promises.specs.Rules.{Kind, kind_number}
use Rattle.promises.specs.Edition.{newest}
use Rattle.promises.specs.Newest.{First}
use Rattle.promises.proofs.Accepts.{fresh_is, good_fresh}
use Rattle.promises.proofs.FirstIs.{first_names}
use Rattle.promises.proofs.AnyEdition.{Same, first_size}

-- as many bytes as were taken were there
pub taken_long : (n : ℕ) (bs : List ℕ) → length (take n bs) ≡ n → n ≤ length bs
taken_long n bs e =
    omega (arith, length-append (take n bs) (drop n bs), ap length (take-append-drop n bs))

-- one turn that passes: paused behind the record
pub one_turn : (st : State) (bs : List ℕ) (c : Bool) → good_state st ≡ true → turn_of st bs c ≡ Ok tt
    → walk_of 1 st bs c ≡ record { state = next_of st bs; count = 1; stop = Pause }
one_turn st bs c g t =
    walk_pass st bs c 0 g t
    ∙ ap (λ (w : Walked). record { state = w.state; count = w.count + 1; stop = w.stop })
    (walk_pause (next_of st bs) (drop (next_due st).length bs) c (good_next st bs c g t))

module _ (kind : Kind) (bs : List ℕ) (q : Plan) (begins : First kind (take (first_length (kind_number kind)) bs) q) where
  size : length (take (first_length (kind_number kind)) bs) ≡ first_length (kind_number kind)
  size = first_size newest kind q (take (first_length (kind_number kind)) bs) begins

  pub first_passes : (c : Bool) → turn_of (fresh (kind_number kind)) bs c ≡ Ok tt
  first_passes c = (fresh_is kind bs c).1 (
    taken_long (first_length (kind_number kind)) bs size,
    ((first_names kind zero_plan q (take (first_length (kind_number kind)) bs) size).1 begins).0,
  )

  pub first_step : (c : Bool) → walk_of 1 (fresh (kind_number kind)) bs c ≡ record { state = next_of (fresh (kind_number kind)) bs; count = 1; stop = Pause }
  first_step c = one_turn (fresh (kind_number kind)) bs c (good_fresh kind) (first_passes c)

  pub first_same : Same kind (next_of (fresh (kind_number kind)) bs).plan q
  unfolding next_of spot_of
  first_same = ((first_names kind zero_plan q (take (first_length (kind_number kind)) bs) size).1 begins).1
