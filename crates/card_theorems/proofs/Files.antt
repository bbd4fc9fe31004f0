-- An accepted file's closed walk ends complete, and its plan is the one that the first record names, by the rules and by the state rule.
use Prim.Native.Nat.{ℕ, suc, ◌≤◌, ◌<◌}
use mathlib.Core.Path.{◌≡◌, refl, sym, ap, ◌∙◌, subst}
use mathlib.Core.List.{List}
use mathlib.Core.Bool.{true}
use native.Mathlib.Omega.{arith}
use lib.ListN.{length, take, length-append}
use lib.Seq.{take_at}
use Rattle.plan.specs.Plan.{zero_plan, first_length, total_of, plan_good}
use Rattle.plan.specs.declared.Plan.{Plan}
use Rattle.plan.proofs.Bounds.{small_good, total_small}
use Rattle.walk.specs.State.{fresh}
use Rattle.walk.specs.declared.State.{State}
use Rattle.walk.specs.declared.Walked.{Walked}
use Rattle.walk.proofs.LoopLaws.{walk_pass}
use Rattle.turns.specs.declared.Stop.TheVariants.{Complete}
use Rattle.card_build.specs.Build.{closed}
use Rattle.promises.specs.Rules.{Kind, kind_number, Due, Follow, concat}
use Rattle.promises.specs.Newest.{First, promised, Accepted}
use Rattle.promises.specs.Edition.{newest}
use Rattle.promises.proofs.AnyEdition.{first_size, same_promised}
use Rattle.promises.proofs.FirstIs.{first_names, first_is}
use Rattle.promises.proofs.Accepts.{good_fresh, planned, plan_good_lem, plan_counts, plan_lengths, next_fresh, fresh_is, follow_length, accepted_complete}
use Rattle.promises.proofs.LaterIs.{promised_length}
use Rattle.promises.proofs.PlanNamed.{first_walked}

-- what the closed walk of an accepted file has
pub record File (kind : Kind) (bs : List ℕ) : Type 0 where
  pub complete : (closed (kind_number kind) bs).stop ≡ Complete
  pub plan : (closed (kind_number kind) bs).state.plan ≡ planned kind bs
  pub good : plan_good (kind_number kind) (planned kind bs) ≡ true
  pub counts : length (planned kind bs).counts ≡ 17
  pub lengths : length (planned kind bs).lengths ≡ 17
  pub accepted : (b : Accepted kind bs) × (b.plan ≡ planned kind bs)

counted : (n : ℕ) (st : State) (bs : List ℕ) (w v : Walked) → w ≡ v → (v.count ≡ 0 → ⊥) → w.count ≡ 0 → ⊥
counted n st bs w v e h z = h (ap (λ (x : Walked). x.count) (sym e) ∙ z)

-- as many records follow as the plan that it names promises
pub records : (kind : Kind) (bs : List ℕ) (a : Accepted kind bs) → suc (length a.rest) ≡ total_of (kind_number kind) (planned kind bs)
records kind bs a =
    let l : ℕ = first_length (kind_number kind) in
    let p : Plan = planned kind bs in
    let size = first_size newest kind a.plan a.first a.begins in
    let t : take l bs ≡ a.first = ap (take l) (sym a.are) ∙ take_at a.first (concat a.rest) l size in
    let begins : First kind (take l bs) a.plan = subst (λ (r : List ℕ). First kind r a.plan) (sym t) a.begins in
    let f = (first_names kind zero_plan a.plan (take l bs) (ap length t ∙ size)).1 begins in
    let same : promised kind p ≡ promised kind a.plan = same_promised newest kind p a.plan f.1 in
    omega (
      arith,
      follow_length 1 (promised kind a.plan) a.rest a.follows,
      ap length same,
      promised_length kind p (plan_counts kind (take l bs)) (plan_lengths kind (take l bs)),
    )

pub file : (kind : Kind) (bs : List ℕ) → Accepted kind bs → File kind bs
file kind bs a =
    let l : ℕ = first_length (kind_number kind) in
    let p : Plan = planned kind bs in
    let size = first_size newest kind a.plan a.first a.begins in
    let t : take l bs ≡ a.first = ap (take l) (sym a.are) ∙ take_at a.first (concat a.rest) l size in
    let begins : First kind (take l bs) a.plan = subst (λ (r : List ℕ). First kind r a.plan) (sym t) a.begins in
    let long : length (take l bs) ≡ l = ap length t ∙ size in
    let enough : l ≤ length bs = omega (arith, ap length (sym a.are), length-append a.first (concat a.rest), size) in
    let f = (first_names kind zero_plan a.plan (take l bs) long).1 begins in
    let same : promised kind p ≡ promised kind a.plan = same_promised newest kind p a.plan f.1 in
    let good = plan_good_lem kind bs f.0 in
    let counts = plan_counts kind (take l bs) in
    let few : total_of (kind_number kind) p < 17000002 =
    omega (arith, total_small (kind_number kind) p counts (small_good (kind_number kind) p good)) in
    let pass = (fresh_is kind bs true).1 (enough, f.0) in
    let some = counted 17000002 (fresh (kind_number kind)) bs _ _ (walk_pass (fresh (kind_number kind)) bs true 17000001 (good_fresh kind) pass)
    (λ z. omega arith) in
    record {
      complete = accepted_complete kind bs 17000002 few a;
      plan = (first_walked kind bs true 17000002 some).1 ∙ ap (λ (s : State). s.plan) (next_fresh kind bs);
      good = good;
      counts = counts;
      lengths = plan_lengths kind (take l bs);
      accepted = (
        record {
          plan = p;
          first = a.first;
          rest = a.rest;
          are = a.are;
          begins = subst (λ (r : List ℕ). First kind r p) t ((first_is kind zero_plan (take l bs) long).0 f.0);
          follows = subst (λ (ds : List Due). Follow 1 ds a.rest) (sym same) a.follows;
        },
        refl,
      );
    }
