-- States of one's own: calls begun fresh, over any pieces, say together what one call on all the bytes passed says, since a record that passed passes
-- again on its own bytes alone.
use Prim.Native.Nat.{ℕ, suc, ◌+◌, ◌≤◌, ◌<◌}
use mathlib.Core.Path.{◌≡◌, refl, sym, ap, ap₂, ◌∙◌}
use mathlib.Core.List.{List, ◌++◌, append_assoc}
use mathlib.Core.Bool.{Bool, true, false}
use mathlib.Core.Logic.{⊎_elim}
use native.Mathlib.Nat.{zero-add, pos_of_ne-zero}
use native.Mathlib.Omega.{arith}
use lib.Dec.{eqb}
use lib.ListN.{length, take, drop}
use lib.Seq.{length-take-le, drop_at, take-length, take-take, take-add}
use borrow.Author.Tests.{eqb-true, eqb-false}
use Rattle.std.specs.Prelude.{Ok}
use Rattle.words.specs.Tests.{pick}
use Rattle.words.proofs.Laws.{cases, within_true}
use Rattle.plan.specs.Tables.{rows}
use Rattle.plan.specs.Plan.{total_of, first_length}
use Rattle.plan.specs.declared.Plan.{Plan}
use Rattle.plan.specs.declared.Spot.{Spot}
use Rattle.plan.proofs.CodeLaws.{spot_first}
use Rattle.bodies.specs.Bodies.{body_of}
use Rattle.bodies.specs.Named.{plan_of}
use Rattle.walk.specs.State.{fresh, good_state, next_due}
use Rattle.turns.specs.Turn.{on_fine}
use Rattle.walk.specs.Walk.{turn_of, next_of, stopped, more, bad_stop, walk_of}
use Rattle.walk.specs.declared.State.{State}
use Rattle.turns.specs.declared.Stop.{Stop}
use Rattle.turns.specs.declared.Stop.TheVariants.{Pause}
use Rattle.walk.specs.declared.Walked.{Walked}
use Rattle.walk.proofs.GoodLaws.{good_known, good_later}
use Rattle.turns.proofs.TurnLaws.{pass_parts, pass_long, pass_going, judge_body}
use Rattle.walk.proofs.LoopLaws.{walk_pass, more_more, more_none}
use Rattle.verdicts.specs.Tests.{Verdict}
use Rattle.promises.specs.Rules.{Kind, kind_number}
use Rattle.promises.specs.Pieces.{used_of}
use Rattle.promises.specs.Arriving.{Own, begun, again}
use Rattle.promises.proofs.Accepts.{good_fresh}
use Rattle.promises.proofs.Steps.{by_turns}
use Rattle.promises.proofs.Turns.{turn_pass_stays, next_stays}
use Rattle.walk.proofs.KeptLaws.{good_kept}
use Rattle.promises.proofs.Parts.{header_take}
use Rattle.promises.proofs.WitnessLater.{later_twelve}
use Rattle.promises.proofs.Completed.{named_counts, named_lengths}

-- a plan's lists have as many rows as the code's arrays
abbrev pub Rows : State → Type 0
Rows st = (length st.plan.counts ≡ rows) × (length st.plan.lengths ≡ rows)

pub rows_next : (st : State) (b : List ℕ) → Rows st → Rows (next_of st b)
unfolding next_of
rows_next st b r = go (eqb st.passed 0)
  where
    p : Bool → Plan
    p t = pick t (plan_of st.kind (take (next_due st).length b)) st.plan

    go : (t : Bool) → (length (p t).counts ≡ rows) × (length (p t).lengths ≡ rows)
    go true = (named_counts st.kind (take (next_due st).length b), named_lengths st.kind (take (next_due st).length b))
    go false = r

-- the next record of a good state has at least twelve bytes
first_wide : (kind : ℕ) → 12 ≤ first_length kind
unfolding first_length
first_wide kind = go (eqb kind 1)
  where
    go : (b : Bool) → 12 ≤ pick b 360 720
    go true = omega arith
    go false = omega arith

pub twelve : (st : State) → good_state st ≡ true → Rows st → st.passed < total_of st.kind st.plan → 12 ≤ (next_due st).length
twelve st g r h =
    let k = within_true 1 st.kind 4 (good_known st g) in
    ⊎_elim
    (λ z.
    let e = ap (λ (x : Spot). x.length) (spot_first st.kind st.plan st.passed (eqb-true st.passed 0 z)) in
    omega (arith, e, first_wide st.kind))
    (λ z.
    let n = eqb-false st.passed 0 z in
    let q = good_later st g n in
    later_twelve st.kind st.plan st.passed k.0 k.1 q.0 r.0 r.1 (pos_of_ne-zero n) h)
    (cases (eqb st.passed 0))

-- a record that passed passes open on its own bytes alone
pub pass_alone : (st : State) (b : List ℕ) (c : Bool) → good_state st ≡ true → Rows st → turn_of st b c ≡ Ok tt
    → turn_of st (take (next_due st).length b) false ≡ Ok tt
pass_alone st b c g r t =
    let s = next_due st in
    let q = pass_parts st.kind st.plan st.passed s b c t in
    let o = pass_going st.kind st.plan st.passed s b c t in
    let l = pass_long st.kind st.plan st.passed s b c t in
    let w = twelve st g r o in
    let e : length (take s.length b) ≡ s.length = length-take-le s.length b l in
    judge_body st.kind st.plan st.passed s (take s.length b) false o (omega arith) (header_take _ _ _ s.length b w ∙ q.head) (omega arith)
    ∙ ap (λ (y : List ℕ). on_fine (body_of st.kind s.run st.plan st.passed y) (st.passed + 1) s.start (Ok tt)) (take-all-of s.length b e)
    ∙ ap (λ (v : Verdict). on_fine v (st.passed + 1) s.start (Ok tt)) q.body
  where
    take-all-of : (n : ℕ) (y : List ℕ) → length (take n y) ≡ n → take n (take n y) ≡ take n y
    take-all-of n y e = ap (λ (m : ℕ). take m (take n y)) (sym e) ∙ take-length (take n y)

-- ---- the bytes passed are walked again alike, whatever follows them

next_alone : (st : State) (b : List ℕ) → (next_due st).length ≤ length b → next_of st (take (next_due st).length b) ≡ next_of st b
unfolding next_of
next_alone st b h =
    ap (λ (y : List ℕ). record { kind = st.kind; passed = st.passed + 1; plan = pick (eqb st.passed 0) (plan_of st.kind y) st.plan })
    (take-take (next_due st).length (next_due st).length b (omega arith))

Alone : Bool → ℕ → State → List ℕ → Walked → ℕ → Type 0
Alone c n st b w u = Rows st → (d : ℕ) (ys : List ℕ) (e : Bool) → walk_of (w.count + d) st (take u b ++ ys) e ≡ more w.count (walk_of d w.state ys e)

alone_none : (c : Bool) (n : ℕ) (st : State) (b : List ℕ) (x : Stop) → Alone c n st b (stopped st x) 0
unfolding Alone
alone_none c n st b x r d ys e = rw zero-add (more_none (walk_of d st ys e))

alone_pass : (c : Bool) (n : ℕ) (st : State) (b : List ℕ) (w : Walked) (u : ℕ) → good_state st ≡ true → turn_of st b c ≡ Ok tt
    → Alone c n (next_of st b) (drop (next_due st).length b) w u → Alone c (suc n) st b (more 1 w) ((next_due st).length + u)
unfolding Alone
alone_pass c n st b w u g t ih r d ys e =
    let l = (next_due st).length in
    let a = take l b in
    let rest = take u (drop l b) ++ ys in
    let long = pass_long st.kind st.plan st.passed (next_due st) b c t in
    let p = pass_alone st b c g r t in
    let q : take (l + u) b ++ ys ≡ a ++ rest = ap (λ (z : List ℕ). z ++ ys) (take-add l u b) ∙ append_assoc a (take u (drop l b)) ys in
    let k : w.count + 1 + d ≡ suc (w.count + d) = omega arith in
    ap₂ (λ (m : ℕ) (z : List ℕ). walk_of m st z e) k q
    ∙ walk_pass st (a ++ rest) e (w.count + d) g (turn_pass_stays st a rest e p)
    ∙ ap₂ (λ (s : State) (z : List ℕ). more 1 (walk_of (w.count + d) s z e)) (next_stays st a rest p ∙ next_alone st b long)
    (drop_at a rest l (length-take-le l b long))
    ∙ ap (more 1) (ih (rows_next st b r) d ys e)
    ∙ more_more 1 w.count (walk_of d w.state ys e)
    ∙ ap (λ (m : ℕ). more m (walk_of d w.state ys e)) (let z : 1 + w.count ≡ w.count + 1 = omega arith in z)

alone : (c : Bool) (b : ℕ) (st : State) (bs : List ℕ) → Rows st → (d : ℕ) (ys : List ℕ) (e : Bool)
    → walk_of ((walk_of b st bs c).count + d) st (take (used_of b st bs c) bs ++ ys) e ≡ more (walk_of b st bs c).count
    (walk_of d (walk_of b st bs c).state ys e)
unfolding Alone
alone c b st bs =
    by_turns c (Alone c) (λ n s y g. alone_none c n s y bad_stop) (λ s y g. alone_none c 0 s y Pause) (λ n s y x g t. alone_none c (suc n) s y x)
    (alone_pass c) b st bs

rows_kept : (c : Bool) (b : ℕ) (st : State) (bs : List ℕ) → Rows st → Rows (walk_of b st bs c).state
rows_kept c b st bs =
    by_turns c (λ n s y w u. Rows s → Rows w.state) (λ n s y g r. r) (λ s y g r. r) (λ n s y x g t r. r) (λ n s y w u g t i r. i (rows_next s y r)) b st bs

-- ---- what a state of one's own is: good, and one call on all the bytes passed leads to it
pub record Reached (kind : Kind) (st : State) (pre : List ℕ) : Type 0 where
  pub good : good_state st ≡ true
  pub rows : Rows st
  pub passed : ℕ
  pub walks : (d : ℕ) (ys : List ℕ) (e : Bool) → walk_of (passed + d) (fresh (kind_number kind)) (pre ++ ys) e ≡ more passed (walk_of d st ys e)

pub reached : (kind : Kind) {st : State} {pre : List ℕ} → Own kind st pre → Reached kind st pre
reached kind begun =
    record {
      good = good_fresh kind;
      rows = (refl, refl);
      passed = 0;
      walks = λ d ys e. rw zero-add (more_none (walk_of d (fresh (kind_number kind)) ys e));
    }
reached kind (again {st} {pre} o b bs c) =
    let r = reached kind o in
    let w = walk_of b st bs c in
    let u = used_of b st bs c in
    record {
      good = good_kept b st bs c r.good;
      rows = rows_kept c b st bs r.rows;
      passed = r.passed + w.count;
      walks =
          λ d ys e.
          ap₂ (λ (m : ℕ) (z : List ℕ). walk_of m (fresh (kind_number kind)) z e)
          (let q : r.passed + w.count + d ≡ r.passed + (w.count + d) = omega arith in q) (append_assoc pre (take u bs) ys)
          ∙ r.walks (w.count + d) (take u bs ++ ys) e
          ∙ ap (more r.passed) (alone c b st bs r.rows d ys e)
          ∙ more_more r.passed w.count (walk_of d w.state ys e);
    }
