-- Refusal 2 is given only where a closed file ends before its next record does: a record that is judged is whole, so that no field of its body is cut.
use Prim.Native.Nat.{ℕ, zero, suc, ◌+◌, ◌≤◌, ◌<◌}
use mathlib.Core.Path.{◌≡◌, refl, sym, ap, ◌∙◌, subst}
use mathlib.Core.Logic.{⊎_elim}
use mathlib.Core.List.{List}
use mathlib.Core.Bool.{Bool, true, false, false≢true}
use native.Mathlib.Omega.{arith}
use lib.Dec.{eqb, leb, ltb}
use lib.ListN.{length, take, drop}
use lib.Seq.{length-take-le, drop-drop}
use borrow.Author.Tests.{eqb-true, eqb-false, ne_eqb, leb-true, leb-false, ltb-true, ltb-false}
use Rattle.std.specs.Prelude.{Ok, Err}
use Rattle.words.specs.Tests.{pick}
use Rattle.words.specs.declared.Refusal.{Refusal}
use Rattle.words.proofs.Laws.{cases, within_true}
use Rattle.plan.specs.Tables.{rows}
use Rattle.plan.specs.Plan.{total_of, first_length, plan_good, due_of}
use Rattle.plan.specs.declared.Plan.{Plan}
use Rattle.plan.specs.declared.Due.{Due}
use Rattle.plan.specs.declared.Spot.{Spot}
use Rattle.plan.proofs.CodeLaws.{spot_first}
use Rattle.bodies.specs.Bodies.{body_of}
use Rattle.headers.specs.Header.{header_of}
use Rattle.turns.specs.Turn.{Turn, refused_at, on_fine, ended_of, short_of}
use Rattle.turns.specs.declared.Stop.TheVariants.{Wait, Complete, Refused}
use Rattle.turns.proofs.TurnLaws.{judge_ended, judge_twelve, judge_fault, judge_part, judge_body}
use Rattle.turns.proofs.FaultLaws.{FaultCan, need_of, header_can, body_can}
use Rattle.walk.specs.State.{good_state, next_due}
use Rattle.walk.specs.Walk.{turn_of, walk_of}
use Rattle.walk.specs.declared.State.{State}
use Rattle.walk.proofs.GoodLaws.{good_known, good_later}
use Rattle.walk.proofs.TurnLaws.{good_next}
use Rattle.verdicts.specs.Tests.{Verdict}
use Rattle.promises.specs.Rules.{Kind, volume, leader, image, trailer, kind_number}
use Rattle.promises.specs.Pieces.{used_of}
use Rattle.promises.proofs.BodyIs.{Long}
use Rattle.promises.proofs.LaterIs.{long_is}
use Rattle.promises.proofs.Steps.{by_turns}
use Rattle.promises.proofs.Turns.{pass≢halt, halt_same, refused_same, pause≢refused, wait≢refused, complete≢refused}
use Rattle.promises.proofs.Own.{Rows, rows_next, twelve}

-- ---- a record that is due has the length that its fields need

need_first : (kind : Kind) → need_of (kind_number kind) 0 ≤ first_length (kind_number kind)
unfolding first_length
need_first volume = omega arith
need_first leader = omega arith
need_first image = omega arith
need_first trailer = omega arith

need_later : (kind : Kind) (run l : ℕ) → Long kind run l → need_of (kind_number kind) run ≤ l
need_later volume zero l h = absurd h
need_later volume (suc zero) l h = omega arith
need_later volume (suc (suc i)) l h = rw (ne_eqb (suc (suc i)) 0 (omega arith), ne_eqb (suc (suc i)) 1 (omega arith)) (omega arith)
need_later leader zero l h = absurd h
need_later leader (suc zero) l h = omega arith
need_later leader (suc (suc zero)) l h = omega arith
need_later leader (suc (suc (suc i))) l h =
    rw (ne_eqb (suc (suc (suc i))) 0 (omega arith), ne_eqb (suc (suc (suc i))) 1 (omega arith), ne_eqb (suc (suc (suc i))) 2 (omega arith)) (omega arith)
need_later image zero l h = absurd h
need_later image (suc i) l h = rw (ne_eqb (suc i) 0 (omega arith)) (omega arith)
need_later trailer run l h = absurd h

known : (k : ℕ) → 1 ≤ k → k ≤ 4 → (kind : Kind) × (kind_number kind ≡ k)
known zero a b = absurd (omega arith)
known (suc zero) a b = (volume, refl)
known (suc (suc zero)) a b = (leader, refl)
known (suc (suc (suc zero))) a b = (image, refl)
known (suc (suc (suc (suc zero)))) a b = (trailer, refl)
known (suc (suc (suc (suc (suc k))))) a b = absurd (omega arith)

-- a record behind the first
Later : Plan → ℕ → ℕ → Type 0
Later p k kind = plan_good kind p ≡ true → k < total_of kind p → need_of kind (due_of kind p k).run ≤ (due_of kind p k).length

later : (p : Plan) → length p.counts ≡ rows → length p.lengths ≡ rows → (kind : Kind) (k : ℕ) → (k ≡ 0 → ⊥) → Later p k (kind_number kind)
unfolding Later
later p c l kind zero n g h = absurd (n refl)
later p c l kind (suc k) n g h = need_later kind _ _ (long_is kind p g c l k h)

need_is : (st : State) → good_state st ≡ true → Rows st → st.passed < total_of st.kind st.plan → need_of st.kind (next_due st).run ≤ (next_due st).length
unfolding Later
need_is st g r h =
    let k = within_true 1 st.kind 4 (good_known st g) in
    let q = known st.kind k.0 k.1 in
    ⊎_elim
    (λ z.
    subst (λ (s : Spot). need_of st.kind s.run ≤ s.length) (sym (spot_first st.kind st.plan st.passed (eqb-true st.passed 0 z)))
    (subst (λ (i : ℕ). need_of i 0 ≤ first_length i) q.1 (need_first q.0)))
    (λ z.
    let n = eqb-false st.passed 0 z in
    subst (Later st.plan st.passed) q.1 (later st.plan r.0 r.1 q.0 st.passed n) (good_later st g n).0 h)
    (cases (eqb st.passed 0))

-- ---- a turn

-- what 2 says of a call: the file is closed, and so many bytes do not hold the record
abbrev Cut : Bool → ℕ → ℕ → Type 0
Cut c here long = (c ≡ true) × (here < long)

short_two : (o a n : ℕ) (c : Bool) (x : Refusal) → ◌≡◌ {A = Turn} (Err (short_of o a c n)) (Err (Refused x)) → c ≡ true
unfolding short_of
short_two o a n true x e = refl
short_two o a n false x e = absurd (wait≢refused (halt_same e))

ended_two : (o a n : ℕ) (c : Bool) (x : Refusal) → ◌≡◌ {A = Turn} (Err (ended_of o a n c)) (Err (Refused x)) → x.number ≡ 2 → ⊥
unfolding ended_of
ended_two o a n c x = go (eqb n 0) c
  where
    go : (z c : Bool) → ◌≡◌ {A = Turn} (Err (pick z (pick c Complete (Wait 0)) (refused_at o a 9 0))) (Err (Refused x)) → x.number ≡ 2 → ⊥
    go true true e t = complete≢refused (halt_same e)
    go true false e t = wait≢refused (halt_same e)
    go false c e t = let n = ap (λ (r : Refusal). r.number) (refused_same (halt_same e)) in omega arith

-- a fault that is 2
fault_two : (need : ℕ) (r : List ℕ) (v : Verdict) (o a : ℕ) (x : Refusal) → FaultCan need r v → on_fine v o a (Ok tt) ≡ Err (Refused x)
    → x.number ≡ 2 → length r < need
fault_two need r (Ok u) o a x f e t = absurd (pass≢halt e)
fault_two need r (Err y) o a x f e t = f.short (ap (λ (r : Refusal). r.number) (refused_same (halt_same e)) ∙ t)

pub turn_two : (st : State) (b : List ℕ) (c : Bool) (x : Refusal) → good_state st ≡ true → Rows st → turn_of st b c ≡ Err (Refused x) → x.number ≡ 2
    → Cut c (length b) (next_due st).length
turn_two st b c x g r e t =
    ⊎_elim (λ h. absurd (ended_two _ _ _ c x (sym (judge_ended _ _ _ s b c (leb-true _ _ h)) ∙ e) t)) (λ h. going (leb-false _ _ h))
    (cases (leb (total_of st.kind st.plan) st.passed))
  where
    s : Due
    s = next_due st

    whole : st.passed < total_of st.kind st.plan → 12 ≤ length b → header_of (st.passed + 1) s.codes s.length b ≡ Ok tt
        → s.length ≤ length b → ⊥
    whole o w f l =
        let long = length-take-le s.length b l in
        let q = fault_two (need_of st.kind s.run) (take s.length b) (body_of st.kind s.run st.plan st.passed (take s.length b))
        (st.passed + 1) s.start x
        (body_can st.kind s.run st.plan st.passed (take s.length b)) (sym (judge_body st.kind st.plan st.passed s b c o w f l) ∙ e) t in
        omega (arith, need_is st g r o)

    headed : st.passed < total_of st.kind st.plan → 12 ≤ length b → header_of (st.passed + 1) s.codes s.length b ≡ Ok tt
        → Cut c (length b) s.length
    headed o w f =
        ⊎_elim
        (λ h. let l = ltb-true _ _ h in (short_two _ _ _ c x (sym (judge_part st.kind st.plan st.passed s b c o w f l) ∙ e), l))
        (λ h. absurd (whole o w f (ltb-false _ _ h)))
        (cases (ltb (length b) s.length))

    judged : st.passed < total_of st.kind st.plan → 12 ≤ length b → (v : Verdict)
        → header_of (st.passed + 1) s.codes s.length b ≡ v → Cut c (length b) s.length
    judged o w (Ok u) f = headed o w f
    judged o w (Err y) f =
        let j = judge_fault st.kind st.plan st.passed s b c o w y f in
        absurd (omega (arith, fault_two 0 b (Err y) _ _ x (subst (FaultCan 0 b) f (header_can _ _ _ b)) (sym j ∙ e) t))

    going : st.passed < total_of st.kind st.plan → Cut c (length b) s.length
    going o =
        ⊎_elim
        (λ h. let l = ltb-true _ _ h in
        (short_two _ _ _ c x (sym (judge_twelve st.kind st.plan st.passed s b c o l) ∙ e), omega (arith, twelve st g r o)))
        (λ h. judged o (ltb-false _ _ h) _ refl)
        (cases (ltb (length b) 12))

-- ---- a call

-- the file is closed, and the bytes not passed do not hold the record behind the state handed back
pub two : (b : ℕ) (st : State) (bs : List ℕ) (c : Bool) → good_state st ≡ true → Rows st → (x : Refusal) → (walk_of b st bs c).stop ≡ Refused x → x.number ≡ 2
    → (c ≡ true) × (length (drop (used_of b st bs c) bs) < (next_due (walk_of b st bs c).state).length)
two b st bs c =
    by_turns c
    (λ n s y w u. good_state s ≡ true → Rows s → (x : Refusal) → w.stop ≡ Refused x → x.number ≡ 2 → Cut c (length (drop u y)) (next_due w.state).length)
    (λ n s y g h r x e t. absurd (false≢true (sym g ∙ h))) (λ s y g h r x e t. absurd (pause≢refused e))
    (λ n s y z g o h r x e t. turn_two s y c x h r (o ∙ ap Err e) t)
    (λ n s y w u g o i h r x e t. rw (← drop-drop u (next_due s).length y) (i (good_next s y c h o) (rows_next s y r) x e t)) b st bs
