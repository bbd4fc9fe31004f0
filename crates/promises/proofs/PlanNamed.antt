-- `plan_named`: behind the first record the state's plan is the numbers that the rules name in it, since the record that passed is a first record of
-- the rules; so a budget above that plan's records never pauses (`enough_planned`).
use Prim.Native.Nat.{ℕ, zero, suc, ◌≤◌, ◌<◌}
use mathlib.Core.Path.{◌≡◌, refl, sym, ap, ◌∙◌, subst}
use mathlib.Core.Bool.{Bool, true, false}
use mathlib.Core.List.{List}
use native.Mathlib.Omega.{arith}
use lib.ListN.{length, take, drop}
use lib.Seq.{length-take-le}
use Rattle.std.specs.Prelude.{Ok, Err}
use Rattle.plan.specs.Plan.{first_length, spot_of, zero_plan, total_of, first_codes, codes_of}
use Rattle.plan.specs.declared.Plan.{Plan}
use Rattle.bodies.specs.Named.{plan_of}
use Rattle.walk.specs.State.{fresh, good_state, next_due}
use Rattle.walk.specs.Walk.{turn_of, next_of, walk_of}
use Rattle.walk.specs.declared.State.{State}
use Rattle.turns.specs.Turn.{Turn}
use Rattle.turns.specs.declared.Stop.TheVariants.{Pause}
use Rattle.walk.specs.declared.Walked.{Walked}
use Rattle.walk.proofs.LoopLaws.{walk_bad, walk_halt, walk_pass, walk_pause}
use Rattle.walk.proofs.TurnLaws.{next_passed}
use Rattle.turns.proofs.TurnLaws.{pass_parts, pass_long}
use mathlib.Core.Logic.{◌⊎◌, inl, inr, ◌≢◌}
use borrow.Author.Tests.{ne_eqb}
use Rattle.words.specs.Tests.{pick}
use Rattle.words.proofs.Laws.{cases}
use Rattle.promises.proofs.Steps.{by_turns}
use Rattle.promises.specs.Rules.{Kind, kind_number}
use Rattle.promises.specs.Newest.{First}
use Rattle.promises.specs.Demands.{planned_total}
use Rattle.promises.proofs.Counted.{pause_counted}
use Rattle.promises.proofs.Enough.{enough}
use Rattle.promises.proofs.Parts.{header_take}
use Rattle.promises.proofs.Least.{first_least}
use Rattle.promises.proofs.FirstIs.{first_is}

-- the first record that passed, by the rules
pub first_passed : (kind : Kind) (bs : List ℕ) (c : Bool) → turn_of (fresh (kind_number kind)) bs c ≡ Ok tt
    → First kind (take (first_length (kind_number kind)) bs) (next_of (fresh (kind_number kind)) bs).plan
unfolding next_of spot_of codes_of
first_passed kind bs c t =
    let k = kind_number kind in
    let l = first_length k in
    let q = pass_parts k zero_plan 0 (next_due (fresh k)) bs c t in
    let long : l ≤ length bs = pass_long k zero_plan 0 (next_due (fresh k)) bs c t in
    (first_is kind zero_plan (take l bs) (length-take-le l bs long)).0
    (record { head = header_take 1 (first_codes k) l l bs (first_least kind) ∙ q.head; body = q.body })

next_plan : (s : State) (y : List ℕ) → (s.passed ≡ 0 → ⊥) → (next_of s y).plan ≡ s.plan
unfolding next_of
next_plan s y h = ap (λ (b : Bool). pick b (plan_of s.kind (take (next_due s).length y)) s.plan) (ne_eqb s.passed 0 h)

-- behind a first record the plan stays
pub plan_kept : (b : ℕ) (st : State) (bs : List ℕ) (c : Bool) → (st.passed ≡ 0 → ⊥) → (walk_of b st bs c).state.plan ≡ st.plan
plan_kept b st bs c =
    by_turns c (λ n s y w u. (s.passed ≡ 0 → ⊥) → w.state.plan ≡ s.plan) (λ n s y g h. refl) (λ s y g h. refl) (λ n s y x g t h. refl)
    (λ n s y w u g t i h. i (λ e. let q = next_passed s y in omega arith) ∙ next_plan s y h) b st bs

-- a walk begun fresh that has passed a record passed the file's first, and its plan is the one behind that record
pub first_walked : (kind : Kind) (bs : List ℕ) (c : Bool) (n : ℕ) → ((walk_of n (fresh (kind_number kind)) bs c).count ≡ 0 → ⊥)
    → (turn_of (fresh (kind_number kind)) bs c ≡ Ok tt)
    × ((walk_of n (fresh (kind_number kind)) bs c).state.plan ≡ (next_of (fresh (kind_number kind)) bs).plan)
first_walked kind bs c n h = go n h (cases (good_state st)) (turn_of st bs c) refl
  where
    st : State
    st = fresh (kind_number kind)

    count_of : (w v : Walked) → w ≡ v → v.count ≡ 0 → w.count ≡ 0
    count_of w v e z = ap (λ (x : Walked). x.count) e ∙ z

    go : (m : ℕ) → ((walk_of m st bs c).count ≡ 0 → ⊥) → (good_state st ≡ true) ⊎ (good_state st ≡ false) → (t : Turn) → turn_of st bs c ≡ t
        → (turn_of st bs c ≡ Ok tt) × ((walk_of m st bs c).state.plan ≡ (next_of st bs).plan)
    go m k (inr g) t e = absurd (k (count_of _ _ (walk_bad st bs c m g) refl))
    go zero k (inl g) t e = absurd (k (count_of _ _ (walk_pause st bs c g) refl))
    go (suc m) k (inl g) (Err x) e = absurd (k (count_of _ _ (walk_halt st bs c m x g e) refl))
    go (suc m) k (inl g) (Ok u) e = (
      e,
      ap (λ (w : Walked). w.state.plan) (walk_pass st bs c m g e)
          ∙ plan_kept m (next_of st bs) (drop (next_due st).length bs) c (λ z. let o = next_passed st bs in omega arith),
    )

-- a walk begun fresh that has passed a record: its plan is the numbers that the rules name in the file's first record
pub plan_named : (kind : Kind) (bs : List ℕ) (c : Bool) (n : ℕ) → ((walk_of n (fresh (kind_number kind)) bs c).count ≡ 0 → ⊥)
    → First kind (take (first_length (kind_number kind)) bs) (walk_of n (fresh (kind_number kind)) bs c).state.plan
plan_named kind bs c n h =
    let q = first_walked kind bs c n h in
    subst (λ (p : Plan). First kind (take (first_length (kind_number kind)) bs) p) (sym q.1) (first_passed kind bs c q.0)

plan_behind_lem : (kind : ℕ) (bs : List ℕ) → (next_of (fresh kind) bs).plan ≡ plan_of kind (take (first_length kind) bs)
unfolding next_of spot_of
plan_behind_lem kind bs = refl

-- a budget above the records that the file's own first record plans never pauses, open or closed
pub enough_planned : (kind : Kind) (n : ℕ) (bs : List ℕ) (c : Bool) → planned_total kind bs < n → (walk_of n (fresh (kind_number kind)) bs c).stop ≢ Pause
enough_planned kind n bs c l e =
    let k = kind_number kind in
    let m : (walk_of n (fresh k) bs c).count ≡ n = pause_counted n (fresh k) bs c e in
    let q = (first_walked kind bs c n (λ z. omega arith)).1 ∙ plan_behind_lem k bs in
    enough k n bs c (subst (λ (p : Plan). total_of k p < n) (sym q) l) e
