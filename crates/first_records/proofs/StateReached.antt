-- `state_reached`: the state rule allows exactly the states that a walk begun fresh hands back: on a first record that names the plan, and then on true
-- records of the kind, one after the other, by induction over how many.
use Prim.Native.Nat.{ℕ, zero, suc, ◌+◌, ◌≤◌}
use mathlib.Core.Path.{◌≡◌, refl, sym, ap, ◌∙◌, subst}
use mathlib.Core.List.{List, [], ◌++◌}
use mathlib.Core.Bool.{true, false}
use mathlib.Core.Logic.{◌↔◌, inl, inr}
use native.Mathlib.Nat.{add-zero}
use native.Mathlib.Omega.{arith}
use lib.ListN.{length, take, drop}
use lib.Seq.{take_at, drop_at}
use Rattle.std.specs.Prelude.{Ok}
use Rattle.plan.specs.Tables.{rows}
use Rattle.plan.specs.Plan.{first_length, total_of, spot_of, plan_good, due_of}
use Rattle.plan.specs.declared.Plan.{Plan}
use Rattle.bodies.specs.Named.{plan_of}
use Rattle.bodies.specs.Bodies.{body_of}
use Rattle.headers.specs.Header.{header_of}
use Rattle.walk.specs.State.{fresh, good_state, next_due}
use Rattle.walk.specs.Walk.{turn_of, next_of, walk_of}
use Rattle.walk.specs.declared.State.{State}
use Rattle.walk.specs.declared.Walked.{Walked}
use Rattle.walk.proofs.KeptLaws.{good_kept}
use Rattle.walk.proofs.LoopLaws.{walk_pass, walk_pause}
use Rattle.walk.proofs.TurnLaws.{next_as_later}
use Rattle.promises.specs.Bytes.{Bytes}
use Rattle.promises.specs.Rules.{Kind, kind_number}
use Rattle.promises.specs.Edition.{newest}
use Rattle.promises.specs.Newest.{First}
use Rattle.promises.proofs.Accepts.{kind_low, good_fresh}
use Rattle.promises.proofs.AnyEdition.{first_size}
use Rattle.promises.proofs.Completed.{at, at_good, passes}
use Rattle.promises.proofs.FirstPasses.{first_passes}
use Rattle.promises.proofs.LaterIs.{promised_length}
use Rattle.promises.proofs.Made.{bytes_join}
use Rattle.promises.proofs.Turns.{turn_pass_stays}
use Rattle.promises.proofs.WitnessLater.{later_some, later_twelve}
use Rattle.first_records.specs.StateRule.{Nameable, Lawful, AllowedState, Reached}
use Rattle.first_records.proofs.AllowedNamed.{allowed_named, zero_plan_lem}
use Rattle.first_records.proofs.StateRule.{state_rule}

-- what a walk hands back behind a turn that passes
behind_turn : (st : State) (bs : List ℕ) (n : ℕ) → good_state st ≡ true → turn_of st bs false ≡ Ok tt
    → (walk_of (suc n) st bs false).state ≡ (walk_of n (next_of st bs) (drop (next_due st).length bs) false).state
behind_turn st bs n g t = ap (λ (w : Walked). w.state) (walk_pass st bs false n g t)

module _ (kind : Kind) (p : Plan) (c : length p.counts ≡ rows) (l : length p.lengths ≡ rows) (g : plan_good (kind_number kind) p ≡ true) where
  abbrev after : ℕ → State
  after k = at (kind_number kind) p k

  good : (k : ℕ) → 1 ≤ k → k ≤ total_of (kind_number kind) p → good_state (after k) ≡ true
  good = at_good (kind_number kind) p (kind_low kind).0 (kind_low kind).1 g c l

  -- some bytes on which the walk passes d records more
  abbrev More : ℕ → ℕ → Type 0
  More k d = (ys : List ℕ) × Bytes ys × ((walk_of d (after k) ys false).state ≡ after (k + d))

  more : (d k : ℕ) → 1 ≤ k → k + d ≤ total_of (kind_number kind) p → More k d
  more zero k h m = (
    [],
    tt,
    ap (λ (w : Walked). w.state) (walk_pause (after k) [] false (good k h (omega arith))) ∙ ap after (sym (add-zero k)),
  )
  more (suc d) k h m =
      go (later_some (kind_number kind) p k (kind_low kind).0 (kind_low kind).1 g c l h (omega arith)) (more d (k + 1) (omega arith) (omega arith))
    where
      go : (r : List ℕ) × Bytes r × (length r ≡ (due_of (kind_number kind) p k).length)
          × (header_of (due_of (kind_number kind) p k).ordinal (due_of (kind_number kind) p k).codes (due_of (kind_number kind) p k).length r ≡ Ok tt)
          × (body_of (kind_number kind) (due_of (kind_number kind) p k).run p k r ≡ Ok tt) → More (k + 1) d → More k (suc d)
      go (r, b, size, head, body) (ys, y, e) =
          let st = after k in
          let gs = good k h (omega arith) in
          let w : 12 ≤ length r = omega (arith, later_twelve (kind_number kind) p k (kind_low kind).0 (kind_low kind).1 g c l h (omega arith)) in
          let t = turn_pass_stays st r ys false (passes st gs r b size (omega arith) w head body) in (
            r ++ ys,
            bytes_join r ys b y,
            behind_turn st (r ++ ys) d gs t
                ∙ ap (λ (s : State). (walk_of d s (drop (next_due st).length (r ++ ys)) false).state)
                (sym (next_as_later st (r ++ ys) p (λ z. omega arith) refl))
                ∙ ap (λ (zs : List ℕ). (walk_of d (after (k + 1)) zs false).state) (drop_at r ys (next_due st).length size)
                ∙ e
                ∙ ap after (let q : k + 1 + d ≡ k + suc d = omega arith in q),
          )

  -- a first record that names the plan, and d records more
  from_first : (d : ℕ) → 1 + d ≤ total_of (kind_number kind) p → Nameable kind p
      → (bs : List ℕ) × Bytes bs × ((walk_of (suc d) (fresh (kind_number kind)) bs false).state ≡ after (suc d))
  unfolding next_of spot_of
  from_first d m (r, b, f, e) = go (more d 1 (omega arith) m)
    where
      long : ℕ
      long = first_length (kind_number kind)

      go : More 1 d → (bs : List ℕ) × Bytes bs × ((walk_of (suc d) (fresh (kind_number kind)) bs false).state ≡ after (suc d))
      go (ys, y, q) =
          let k = kind_number kind in
          let size : length r ≡ long = first_size newest kind p r f in
          let front : take long (r ++ ys) ≡ r = take_at r ys long size in
          let t = first_passes kind (r ++ ys) p (subst (λ (x : List ℕ). First kind x p) (sym front) f) false in (
            r ++ ys,
            bytes_join r ys b y,
            behind_turn (fresh k) (r ++ ys) d (good_fresh kind) t
                ∙ ap (λ (x : Plan). (walk_of d (at k x 1) (drop long (r ++ ys)) false).state) (ap (plan_of k) front ∙ e)
                ∙ ap (λ (zs : List ℕ). (walk_of d (after 1) zs false).state) (drop_at r ys long size)
                ∙ q
                ∙ ap after (let z : 1 + d ≡ suc d = omega arith in z),
          )

-- ---- both ways

reached_good : (st : State) → Reached st → good_state st ≡ true
reached_good st (kind, bs, b, e) =
    subst (λ (s : State). good_state s ≡ true) e (good_kept st.passed (fresh (kind_number kind)) bs false (good_fresh kind))

module _ (kind : Kind) (p : Plan) (c : length p.counts ≡ rows) (l : length p.lengths ≡ rows) where
  reached_by : (k : ℕ) → Lawful kind (at (kind_number kind) p k)
      → (bs : List ℕ) × Bytes bs × ((walk_of k (fresh (kind_number kind)) bs false).state ≡ at (kind_number kind) p k)
  reached_by zero (inl (e, z)) = (
    [],
    tt,
    ap (λ (w : Walked). w.state) (walk_pause (fresh (kind_number kind)) [] false (good_fresh kind))
        ∙ ap (λ (x : Plan). at (kind_number kind) x 0) (zero_plan_lem p c l z),
  )
  reached_by zero (inr (a, b, n)) = absurd (omega arith)
  reached_by (suc k) (inl (e, z)) = absurd (omega arith)
  reached_by (suc k) (inr (a, b, n)) =
      from_first kind p c l ((allowed_named kind p c l).1 n) k (omega (arith, promised_length kind p c l)) n

allowed_reached : (st : State) → length st.plan.counts ≡ rows → length st.plan.lengths ≡ rows → AllowedState st → Reached st
allowed_reached st c l (kind, e, a) = go (reached_by kind st.plan c l st.passed a)
  where
    go : (bs : List ℕ) × Bytes bs
        × ((walk_of st.passed (fresh (kind_number kind)) bs false).state ≡ at (kind_number kind) st.plan st.passed) → Reached st
    go (bs, b, q) = (kind, bs, b, q ∙ ap (λ (k : ℕ). at k st.plan st.passed) (sym e))

pub state_reached : (st : State) → length st.plan.counts ≡ rows → length st.plan.lengths ≡ rows → (good_state st ≡ true) ↔ Reached st
state_reached st c l = (λ g. allowed_reached st c l ((state_rule st c l).0 g), reached_good st)
