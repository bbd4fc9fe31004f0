-- A file is refused with one refusal, and a whole one is accepted or refused, never both: what the walk says of it is one answer, which is `Accepted`
-- or `Refuses`.
use Prim.Native.Nat.{ℕ, suc}
use mathlib.Core.Path.{◌≡◌, refl, sym, ◌∙◌}
use mathlib.Core.Logic.{◌↔◌, ◌≢◌}
use mathlib.Core.List.{List}
use mathlib.Core.Bool.{Bool, true}
use native.Mathlib.Omega.{arith}
use Rattle.words.specs.declared.Refusal.{Refusal}
use Rattle.plan.specs.Plan.{total_of}
use Rattle.walk.specs.State.{fresh}
use Rattle.walk.specs.Walk.{walk_of}
use Rattle.turns.specs.declared.Stop.{Stop}
use Rattle.turns.specs.declared.Stop.TheVariants.{Wait, Pause, Complete, Refused}
use Rattle.promises.specs.Rules.{Kind, kind_number}
use Rattle.promises.specs.Newest.{Accepted}
use Rattle.promises.proofs.Turns.{refused_same, complete≢refused}
use Rattle.promises.proofs.Counted.{closed_never_waits}
use Rattle.promises.proofs.PlanNamed.{enough_planned}
use Rattle.promises.proofs.Accepts.{planned, complete_accepted, accepted_complete}
use Rattle.refusals.specs.Refusals.{Refuses}
use Rattle.refusals.proofs.Walked.{refused_to, refused_from}

module _ (kind : Kind) (bs : List ℕ) where
  -- a budget that does not stop the walk
  budget : ℕ
  budget = suc (total_of (kind_number kind) (planned kind bs))

  runs : (c : Bool) → (walk_of budget (fresh (kind_number kind)) bs c).stop ≢ Pause
  unfolding budget
  runs c = enough_planned kind budget bs c (omega arith)

  -- open or closed, there is one refusal at most
  pub refused_once : (c : Bool) (x y : Refusal) → Refuses kind c bs x → Refuses kind c bs y → x ≡ y
  refused_once c x y h k = refused_same (sym (refused_from kind bs c x budget (runs c) h) ∙ refused_from kind bs c y budget (runs c) k)

  -- a whole file is refused exactly where it is not accepted
  pub refused_or_accepted : ((x : Refusal) × Refuses kind true bs x) ↔ (Accepted kind bs → ⊥)
  unfolding budget
  refused_or_accepted = (
    λ h a. complete≢refused (sym (accepted_complete kind bs budget (omega arith) a) ∙ refused_from kind bs true h.0 budget (runs true) h.1),
    λ n. go n (walk_of budget (fresh (kind_number kind)) bs true).stop refl,
  )
    where
      go : (Accepted kind bs → ⊥) → (s : Stop) → (walk_of budget (fresh (kind_number kind)) bs true).stop ≡ s → (x : Refusal) × Refuses kind true bs x
      go n (Wait m) e = absurd (closed_never_waits budget (fresh (kind_number kind)) bs m e)
      go n Pause e = absurd (runs true e)
      go n Complete e = absurd (n (complete_accepted kind bs budget e))
      go n (Refused x) e = (x, refused_to kind bs true x budget e)
