-- A closed turn says "complete" exactly behind the last record with no bytes left, and passes exactly a whole record without a fault: the judgement
-- taken apart into its tests, and put together again.
use Prim.Native.Nat.{ℕ, suc, ◌+◌, ◌≤◌, ◌<◌}
use mathlib.Core.Path.{◌≡◌, refl, sym, ap, ◌∙◌}
use mathlib.Core.List.{List}
use mathlib.Core.Bool.{Bool, true, false}
use mathlib.Core.Logic.{◌↔◌}
use native.Mathlib.Omega.{arith}
use lib.Dec.{eqb, leb, ltb}
use lib.ListN.{length, take, drop}
use borrow.Author.Tests.{eqb-true, eq-eqb, leb-true}
use Rattle.std.specs.Prelude.{Ok, Err}
use Rattle.words.specs.Tests.{pick}
use Rattle.plan.specs.Plan.{total_of}
use Rattle.plan.specs.declared.Plan.{Plan}
use Rattle.plan.specs.declared.Due.{Due}
use Rattle.bodies.specs.Bodies.{body_of}
use Rattle.walk.specs.State.{good_state, next_due}
use Rattle.headers.specs.Header.{header_of}
use Rattle.turns.specs.Turn.{on_fine, judge_of, ended_of, short_of, refused_at, Turn}
use Rattle.walk.specs.Walk.{turn_of, next_of, walk_of}
use Rattle.walk.specs.declared.State.{State}
use Rattle.turns.specs.declared.Stop.TheVariants.{Wait, Complete}
use Rattle.walk.specs.declared.Walked.{Walked}
use Rattle.turns.proofs.TurnLaws.{pass_parts, pass_long, judge_ended, judge_body}
use Rattle.walk.proofs.LoopLaws.{walk_halt, walk_pass}
use Rattle.verdicts.specs.Tests.{Verdict}
use Rattle.promises.proofs.Parts.{header_take}
use Rattle.promises.proofs.Turns.{halt_same, pass≢halt, refused≢complete, wait≢complete, wait≢refused}

complete_parts : (x e y z : Bool) (h t : Verdict) (o a : ℕ)
    → pick x (Err (pick e Complete (refused_at o a 9 0)))
    (pick y (Err (refused_at o a 2 0)) (on_fine h o a (pick z (Err (refused_at o a 2 0)) (on_fine t o a (Ok tt))))) ≡ Err Complete
    → (x ≡ true) × (e ≡ true)
complete_parts true true y z h t o a q = (refl, refl)
complete_parts true false y z h t o a q = absurd (refused≢complete (halt_same q))
complete_parts false e true z h t o a q = absurd (refused≢complete (halt_same q))
complete_parts false e false z (Err r) t o a q = absurd (refused≢complete (halt_same q))
complete_parts false e false true (Ok u) t o a q = absurd (refused≢complete (halt_same q))
complete_parts false e false false (Ok u) (Err r) o a q = absurd (refused≢complete (halt_same q))
complete_parts false e false false (Ok u) (Ok v) o a q = absurd (pass≢halt q)

-- a closed turn never waits
module _ (n : ℕ) where
  wait_parts : (x e y z : Bool) (h t : Verdict) (o a : ℕ)
      → pick x (Err (pick e Complete (refused_at o a 9 0)))
      (pick y (Err (refused_at o a 2 0)) (on_fine h o a (pick z (Err (refused_at o a 2 0)) (on_fine t o a (Ok tt))))) ≡ Err (Wait n) → ⊥
  wait_parts true true y z h t o a q = wait≢complete (sym (halt_same q))
  wait_parts true false y z h t o a q = wait≢refused (sym (halt_same q))
  wait_parts false e true z h t o a q = wait≢refused (sym (halt_same q))
  wait_parts false e false z (Err r) t o a q = wait≢refused (sym (halt_same q))
  wait_parts false e false true (Ok u) t o a q = wait≢refused (sym (halt_same q))
  wait_parts false e false false (Ok u) (Err r) o a q = wait≢refused (sym (halt_same q))
  wait_parts false e false false (Ok u) (Ok v) o a q = pass≢halt q

pub closed_turn : (st : State) (b : List ℕ) (n : ℕ) → turn_of st b true ≡ Err (Wait n) → ⊥
unfolding judge_of ended_of short_of
closed_turn st b n e =
    let s = next_due st in
    let k = st.passed in
    wait_parts n (leb (total_of st.kind st.plan) k) (eqb (length b) 0) (ltb (length b) 12) (ltb (length b) s.length)
    (header_of (k + 1) s.codes s.length b) (body_of st.kind s.run st.plan k (take s.length b)) (k + 1) s.start e

module _ (kind : ℕ) (p : Plan) (k : ℕ) (s : Due) (b : List ℕ) where
  complete_to : judge_of kind p k s b true ≡ Err Complete → (total_of kind p ≤ k) × (length b ≡ 0)
  unfolding judge_of ended_of short_of
  complete_to e =
      let q =
      complete_parts (leb (total_of kind p) k) (eqb (length b) 0) (ltb (length b) 12) (ltb (length b) s.length)
      (header_of s.ordinal s.codes s.length b) (body_of kind s.run p k (take s.length b)) s.ordinal s.start e in
      (leb-true _ _ q.0, eqb-true _ _ q.1)

  complete_from : total_of kind p ≤ k → length b ≡ 0 → judge_of kind p k s b true ≡ Err Complete
  unfolding ended_of
  complete_from h e =
      judge_ended kind p k s b true h
      ∙ ap (λ (t : Bool). Err (pick t Complete (refused_at s.ordinal s.start 9 0))) (eq-eqb (length b) 0 e)

  pub complete_is : (judge_of kind p k s b true ≡ Err Complete) ↔ ((total_of kind p ≤ k) × (length b ≡ 0))
  complete_is = (complete_to, λ h. complete_from h.0 h.1)

  -- a record that passes is whole, and neither its header nor its body has a fault
  pub record Passed : Type 0 where
    pub whole : s.length ≤ length b
    pub head : header_of s.ordinal s.codes s.length (take s.length b) ≡ Ok tt
    pub body : body_of kind s.run p k (take s.length b) ≡ Ok tt

  module _ (c : Bool) (going : k < total_of kind p) (least : 12 ≤ s.length) where
    pass_to : judge_of kind p k s b c ≡ Ok tt → Passed
    pass_to e =
        let q = pass_parts kind p k s b c e in
        record {
          whole = pass_long kind p k s b c e;
          head = header_take s.ordinal s.codes s.length s.length b least ∙ q.head;
          body = q.body;
        }

    pass_from : Passed → judge_of kind p k s b c ≡ Ok tt
    pass_from q =
        judge_body kind p k s b c going (let w = q.whole in omega arith)
        (sym (header_take s.ordinal s.codes s.length s.length b least) ∙ q.head) q.whole
        ∙ ap (λ (v : Verdict). on_fine v s.ordinal s.start (Ok tt)) q.body

    pub pass_is : (judge_of kind p k s b c ≡ Ok tt) ↔ Passed
    pass_is = (pass_to, pass_from)

-- a walk that ends "complete" passes a record and goes on, or is behind its last
module _ (st : State) (b : List ℕ) (n : ℕ) (good : good_state st ≡ true) where
  pub data Ends : Type 0 where
    now : turn_of st b true ≡ Err Complete → Ends
    later : turn_of st b true ≡ Ok tt → (walk_of n (next_of st b) (drop (next_due st).length b) true).stop ≡ Complete → Ends

  ends_to : (walk_of (suc n) st b true).stop ≡ Complete → Ends
  ends_to e = go (turn_of st b true) refl
    where
      go : (t : Turn) → turn_of st b true ≡ t → Ends
      go (Ok u) q = later q (ap (λ (w : Walked). w.stop) (sym (walk_pass st b true n good q)) ∙ e)
      go (Err x) q = now (q ∙ ap Err (ap (λ (w : Walked). w.stop) (sym (walk_halt st b true n x good q)) ∙ e))

  ends_from : Ends → (walk_of (suc n) st b true).stop ≡ Complete
  ends_from (now q) = ap (λ (w : Walked). w.stop) (walk_halt st b true n Complete good q)
  ends_from (later q e) = ap (λ (w : Walked). w.stop) (walk_pass st b true n good q) ∙ e

  pub ends_is : ((walk_of (suc n) st b true).stop ≡ Complete) ↔ Ends
  ends_is = (ends_to, ends_from)
