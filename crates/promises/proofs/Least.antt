-- Every record that a plan of the rules promises has at least its twelve header bytes: by the ranges of the lengths, the slots' by their table.
use Prim.Native.Nat.{ℕ, zero, suc, ◌≤◌, ◌<◌}
use mathlib.Core.Path.{◌≡◌, refl, sym, subst}
use mathlib.Core.Bool.{true}
use native.Mathlib.Omega.{arith}
use lib.Dec.{leb}
use lib.ListN.{length, get_or, get_or-replicate}
use borrow.Author.Tests.{leb-true}
use Rattle.words.proofs.Table.{every_at}
use Rattle.plan.specs.Tables.{slot, slots, slot_of, rows}
use Rattle.plan.specs.Plan.{first_length, run_counts, run_lengths, sum_of, total_of, plan_good}
use Rattle.plan.specs.declared.Plan.{Plan}
use Rattle.plan.specs.declared.Slot.{Slot}
use Rattle.plan.proofs.GoodLaws.{image_room}
use Rattle.promises.specs.Rules.{Kind, volume, leader, image, trailer, kind_number}
use Rattle.promises.proofs.LaterIs.{due_at, slot_long, found}

slot_least : (j : ℕ) → j < rows → 12 ≤ (slot_of j).shortest
unfolding slot_of
slot_least j h = leb-true 12 (slot_of j).shortest (every_at (λ (s : Slot). leb 12 s.shortest) slots (slot 0 0 0 0 0) refl j h)

image_least : (p : Plan) → plan_good 3 p ≡ true → 12 ≤ p.l
image_least p g = omega (arith, image_room p g)

run_least : (kind : Kind) (p : Plan) → plan_good (kind_number kind) p ≡ true → 1 < total_of (kind_number kind) p → (j : ℕ) → j < rows
    → 1 ≤ get_or (run_counts (kind_number kind) p) j 0 → 12 ≤ get_or (run_lengths (kind_number kind) p) j 0
unfolding run_counts run_lengths total_of sum_of
run_least volume p g t zero h s = omega arith
run_least volume p g t (suc zero) h s = omega arith
run_least volume p g t (suc (suc j)) h s = absurd (let z = get_or-replicate {A = ℕ} 15 j 0 0 (omega arith) in omega arith)
run_least leader p g t j h s = let a = slot_least j h in let b = slot_long p j g h s in omega arith
run_least image p g t zero h s = image_least p g
run_least image p g t (suc j) h s = absurd (let z = get_or-replicate {A = ℕ} 16 j 0 0 (omega arith) in omega arith)
run_least trailer p g t j h s = absurd (omega arith)

counts_length : (kind : Kind) (p : Plan) → length p.counts ≡ rows → length (run_counts (kind_number kind) p) ≡ rows
unfolding run_counts
counts_length volume p c = refl
counts_length leader p c = c
counts_length image p c = refl
counts_length trailer p c = refl

pub spot_least : (kind : Kind) (p : Plan) → plan_good (kind_number kind) p ≡ true → length p.counts ≡ rows → length p.lengths ≡ rows → (k : ℕ)
    → suc k < total_of (kind_number kind) p
    → 12 ≤ (due_at kind p k).length
spot_least kind p good cl ll k going =
    let f = found kind p good cl ll k going in
    subst (λ (n : ℕ). 12 ≤ n) (sym f.long)
    (run_least kind p good (omega arith) f.j (let w = f.within in let c = counts_length kind p cl in omega arith) f.some)

pub first_least : (kind : Kind) → 12 ≤ first_length (kind_number kind)
unfolding first_length
first_least volume = omega arith
first_least leader = omega arith
first_least image = omega arith
first_least trailer = omega arith
