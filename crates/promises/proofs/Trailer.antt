-- `trailer_accepts`: a trailer's closed walk ends "complete" exactly where its bytes are a trailer, with any budget of two or more: `accepts`, where
-- one record is planned.
use Prim.Native.Nat.{ℕ, suc}
use mathlib.Core.Path.{◌≡◌}
use mathlib.Core.List.{List}
use mathlib.Core.Bool.{true}
use mathlib.Core.Logic.{◌↔◌}
use native.Mathlib.Omega.{arith}
use Rattle.plan.specs.Plan.{total_of, run_counts, sum_of}
use Rattle.walk.specs.State.{fresh}
use Rattle.walk.specs.Walk.{walk_of}
use Rattle.turns.specs.declared.Stop.TheVariants.{Complete}
use Rattle.promises.specs.Rules.{trailer}
use Rattle.promises.specs.Newest.{Accepted}
use Rattle.promises.proofs.Accepts.{accepts}

pub trailer_accepts : (bs : List ℕ) (n : ℕ) → ((walk_of (suc (suc n)) (fresh 4) bs true).stop ≡ Complete) ↔ Accepted trailer bs
unfolding total_of run_counts sum_of
trailer_accepts bs n = accepts trailer bs (suc (suc n)) (omega arith)
