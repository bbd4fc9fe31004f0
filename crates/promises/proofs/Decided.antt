-- For every budget that does not pause, the closed walk is complete exactly on the accepted files; so acceptance is decided, by running the walk with
-- a budget that is enough.
use Prim.Native.Nat.{ℕ, suc, ◌+◌}
use mathlib.Core.Path.{◌≡◌, refl, sym, ap, ◌∙◌}
use mathlib.Core.Bool.{true}
use mathlib.Core.List.{List}
use mathlib.Core.Logic.{◌↔◌}
use native.Mathlib.Omega.{arith}
use native.Mathlib.Decide.{map_dec}
use Rattle.plan.specs.Plan.{total_of}
use Rattle.walk.specs.State.{fresh}
use Rattle.walk.specs.Walk.{walk_of}
use Rattle.turns.specs.declared.Stop.{Stop}
use Rattle.turns.specs.declared.Stop.TheVariants.{Wait, Pause, Complete, Refused}
use Rattle.walk.specs.declared.Walked.{Walked}
use Rattle.promises.specs.Rules.{Kind, kind_number}
use Rattle.promises.specs.Newest.{Accepted}
use Rattle.promises.proofs.Accepts.{planned, accepts}
use Rattle.promises.proofs.Stays.{budget_stays}

-- every budget that does not pause
pub accepts_unpaused : (kind : Kind) (bs : List ℕ) (n : ℕ) → ((walk_of n (fresh (kind_number kind)) bs true).stop ≡ Pause → ⊥)
    → ((walk_of n (fresh (kind_number kind)) bs true).stop ≡ Complete) ↔ Accepted kind bs
accepts_unpaused kind bs n h =
    let d = suc (total_of (kind_number kind) (planned kind bs)) in
    let q = ap (λ (w : Walked). w.stop) (budget_stays n (fresh (kind_number kind)) bs true h d) in
    let a = accepts kind bs (n + d) (omega arith) in
    (λ e. a.0 (q ∙ e), λ x. sym q ∙ a.1 x)

complete? : (x : Stop) → Dec (x ≡ Complete)
complete? (Wait n) = no (λ e. cc)
complete? Pause = no (λ e. cc)
complete? Complete = yes refl
complete? (Refused r) = no (λ e. cc)

-- whether bytes are a file of that kind
pub decided : (kind : Kind) (bs : List ℕ) → Dec (Accepted kind bs)
decided kind bs =
    let n = suc (total_of (kind_number kind) (planned kind bs)) in
    let a = accepts kind bs n (omega arith) in
    map_dec a.0 a.1 (complete? (walk_of n (fresh (kind_number kind)) bs true).stop)
