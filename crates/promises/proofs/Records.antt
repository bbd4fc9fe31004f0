-- An accepted file has as many records as its first record plans, so its closed walk is complete for every budget above the number of its records.
use Prim.Native.Nat.{ℕ, suc, ◌<◌}
use mathlib.Core.Path.{◌≡◌, sym, ap, ◌∙◌, subst}
use mathlib.Core.Bool.{true}
use mathlib.Core.List.{List}
use native.Mathlib.Omega.{arith}
use lib.ListN.{length, take}
use lib.Seq.{take_at}
use Rattle.plan.specs.Plan.{total_of, first_length}
use Rattle.bodies.specs.Named.{plan_of}
use Rattle.walk.specs.State.{fresh}
use Rattle.walk.specs.Walk.{walk_of}
use Rattle.turns.specs.declared.Stop.TheVariants.{Complete}
use Rattle.promises.specs.Rules.{Kind, kind_number, concat}
use Rattle.promises.specs.Edition.{newest}
use Rattle.promises.specs.Newest.{promised, Accepted}
use Rattle.promises.proofs.FirstIs.{first_plan}
use Rattle.promises.proofs.AnyEdition.{first_size, same_promised}
use Rattle.promises.proofs.LaterIs.{promised_length}
use Rattle.promises.proofs.Accepts.{planned, accepted_complete, follow_length}
use Rattle.promises.proofs.Completed.{named_counts, named_lengths}

-- the records of an accepted file, the first among them
pub records_planned : (kind : Kind) (bs : List ℕ) (a : Accepted kind bs) → suc (length a.rest) ≡ total_of (kind_number kind) (planned kind bs)
records_planned kind bs a =
    let k = kind_number kind in
    let q = plan_of k a.first in
    let size = first_size newest kind a.plan a.first a.begins in
    let same : promised kind q ≡ promised kind a.plan = same_promised newest kind q a.plan (first_plan kind a.plan a.first a.begins) in
    let n = follow_length 1 (promised kind a.plan) a.rest a.follows in
    let t = promised_length kind q (named_counts k a.first) (named_lengths k a.first) in
    let front : take (first_length k) bs ≡ a.first = ap (take (first_length k)) (sym a.are) ∙ take_at a.first (concat a.rest) (first_length k) size in
    let p : total_of k q ≡ total_of k (planned kind bs) = ap (λ (r : List ℕ). total_of k (plan_of k r)) (sym front) in
    omega (arith, n, ap length same, t, p)

-- accepted → complete, for every budget above the number of the file's records
pub accepted_complete_records : (kind : Kind) (bs : List ℕ) (a : Accepted kind bs) (n : ℕ) → suc (length a.rest) < n
    → (walk_of n (fresh (kind_number kind)) bs true).stop ≡ Complete
accepted_complete_records kind bs a n h = accepted_complete kind bs n (subst (λ (m : ℕ). m < n) (records_planned kind bs a) h) a
