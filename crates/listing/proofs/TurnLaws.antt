-- One turn of the listing by its cases: too long, or what the walk by one record says.
use Prim.Native.Nat.{ℕ}
use mathlib.Core.Path.{◌≡◌, refl, sym, ap, ◌∙◌}
use mathlib.Core.List.{List, []}
use native.Mathlib.Omega.{arith}
use mathlib.Core.Bool.{Bool, true, false}
use Rattle.std.specs.Prelude.{Ok}
use Rattle.words.specs.Tests.{pick}
use Rattle.walk.specs.State.{fresh}
use Rattle.walk.specs.Walk.{walk_of, begin_of}
use Rattle.plan.specs.Plan.{image}
use Rattle.walk.proofs.BegunLaws.{begun_walks}
use Rattle.walk.proofs.GoodLaws.{fresh_good}
use Rattle.walk.proofs.LoopLaws.{walk_pause}
use Rattle.walk.specs.declared.State.{State}
use Rattle.turns.specs.declared.Stop.{Stop}
use Rattle.walk.specs.declared.Walked.{Walked}
use Rattle.listing.specs.Rows.{say_of, too_long, told_by, told_of}
use Rattle.rows.specs.declared.Row.TheVariants.{TooLong}
use Rattle.listing.specs.declared.Say.{Say}
use Rattle.listing.specs.declared.Say.TheVariants.{Last}

module _ (st : State) (held : List ℕ) (closed : Bool) where
  pub told_long : too_long st ≡ true → record { state = st; say = Last TooLong } ≡ told_of st held closed
  unfolding told_of
  told_long e = sym (simp e)

  module _ (w : Walked) (short : too_long st ≡ false) (walks : w ≡ walk_of 1 st held closed) where
    pub told_is : told_of st held closed ≡ record { state = w.state; say = say_of st held w.state w.stop }
    unfolding told_of
    told_is = ap (λ (b : Bool). pick b (record { state = st; say = Last TooLong }) (told_by st held (walk_of 1 st held closed))) short
        ∙ ap (told_by st held) (sym walks)

    pub told_say : (x : Stop) (say : Say) → w.stop ≡ x → say ≡ say_of st held w.state x → record { state = w.state; say = say } ≡ told_of st held closed
    told_say x say e q =
        ap (λ (s : Say). record { state = w.state; say = s }) (q ∙ ap (say_of st held w.state) (sym e)) ∙ sym told_is

-- a budget of 0 passes nothing
pub begun_walked : (st : State) (w : Walked) → Ok st ≡ begin_of image → w ≡ walk_of 0 st [] false → w.state ≡ fresh image
begun_walked st w e q =
    ap (λ (x : Walked). x.state) (begun_walks image 0 [] false refl st w e q ∙ walk_pause (fresh image) [] false (fresh_good image (omega arith) (omega arith)))
