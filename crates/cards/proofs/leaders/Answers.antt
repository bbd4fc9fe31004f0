-- What is left to judge behind the leader entries that pass is the whole judging of them; each ordinal is a byte, and the lengths add up.
use Prim.Native.Nat.{ℕ, ◌+◌, ◌≤◌}
use mathlib.Core.Path.{◌≡◌, refl, sym, ap, ◌∙◌}
use mathlib.Core.Bool.{Bool}
use native.Mathlib.Omega.{arith}
use lib.ListN.{length, drop}
use Rattle.std.specs.Prelude.{Ok}
use Rattle.std.proofs.lemmas.Result.{err_from_is_err_and}
use Rattle.cards.specs.Check.{body_of, fault_of, judged, leaders_of}
use Rattle.cards.proofs.EntryLaws.{passes}
use Rattle.cards.proofs.LoopLaws as laws
use Rattle.cards.proofs.leaders.Goals as goal

pub loop-at-init : goal.loop-at-init
loop-at-init c = (omega (arith, c.requires), omega arith, omega arith, (length c.args.card.now, omega arith, refl))

pub returns-in_err-fault-clause-value : goal.returns-in_err-fault-clause-value
returns-in_err-fault-clause-value c =
    let loop = c.loop-at in
    let card = c.args.card.now in
    let p = err_from_is_err_and c.from_residual.result c.from_residual.ensures.1 in
    let e = ap (λ (t : Bool). judged {A = Unit {0}} (fault_of 3 t (laws.rest card loop.at)) loop.at (Ok tt)) (sym c.leader_holds.ensures.value)
    ∙ sym c.fault.ensures ∙ c.in_err-fault.was in
    p.1 ∙ rw (p.2) (laws.leaders_wrong c.args.n loop.entries loop.sum loop.at card loop.invariant.3.0 _ c.loop-at-test.true loop.invariant.3.1 e)
    ∙ sym loop.invariant.3.2

pub loop-at-preserved : goal.loop-at-preserved
unfolding body_of
loop-at-preserved c =
    let args = c.args in
    let loop = c.loop-at in
    let leader-holds = c.leader_holds in
    let card = args.card.now in
    let z : fault_of 3 leader-holds.result (laws.rest card loop.at) ≡ Ok tt = laws.judged_ok _ loop.at (sym c.fault.ensures ∙ c.in_ok-fault.was) in
    let e = ap (λ (t : Bool). fault_of 3 t (laws.rest card loop.at)) (sym leader-holds.ensures.value) ∙ z in
    let t = (passes 3 leader-holds.result (laws.rest card loop.at) z).holds' in
    let next = laws.leaders_next args.n loop.entries loop.sum loop.at card loop.invariant.3.0 c.loop-at-test.true loop.invariant.3.1 e in (
      laws.pass_room 3 loop.at leader-holds.result card loop.invariant.0 z,
      leader-holds.ensures.k_bound t,
      omega (arith, loop.invariant.2, c.four-sum.ensures.upper_bound),
      (
        next.0,
        next.1,
        loop.invariant.3.2 ∙ next.2
            ∙ ap (λ (x : ℕ). leaders_of next.0 args.n (loop.entries + 1) (loop.sum + x) (loop.at + 10) (drop (loop.at + 10) card)) (sym
            c.four-sum.ensures.value),
      ),
    )

pub returns-clause-value : goal.returns-clause-value
returns-clause-value c =
    let loop = c.loop-at in
    laws.leaders_end loop.invariant.3.0 c.args.n loop.entries loop.sum loop.at c.args.card.now c.loop-at-test.false ∙ sym loop.invariant.3.2

-- behind the last entry the range has no step more
pub returns-in_ok-fault-clause-value : goal.returns-in_ok-fault-clause-value
unfolding body_of
returns-in_ok-fault-clause-value c =
    let args = c.args in
    let loop = c.loop-at in
    let leader-holds = c.leader_holds in
    let card = args.card.now in
    let z : fault_of 3 leader-holds.result (laws.rest card loop.at) ≡ Ok tt = laws.judged_ok _ loop.at (sym c.fault.ensures ∙ c.in_ok-fault.was) in
    let e = ap (λ (t : Bool). fault_of 3 t (laws.rest card loop.at)) (sym leader-holds.ensures.value) ∙ z in
    let next = laws.leaders_next args.n loop.entries loop.sum loop.at card loop.invariant.3.0 c.loop-at-test.true loop.invariant.3.1 e in
    let ends : length card ≤ loop.at + 10 = omega arith in
    laws.leaders_end next.0 args.n (loop.entries + 1) (loop.sum + c.four-sum.result) (loop.at + 10) card ends
    ∙ ap (λ (x : ℕ). leaders_of next.0 args.n (loop.entries + 1) (loop.sum + x) (loop.at + 10) (drop (loop.at + 10) card)) c.four-sum.ensures.value
    ∙ sym (loop.invariant.3.2 ∙ next.2)

pub returns-in_ok-fault-clause-few : goal.returns-in_ok-fault-clause-few
returns-in_ok-fault-clause-few c =
    let loop = c.loop-at in
    let z : fault_of 3 c.leader_holds.result (laws.rest c.args.card.now loop.at) ≡ Ok tt = laws.judged_ok _ loop.at (sym c.fault.ensures ∙ c.in_ok-fault.was) in
    laws.card_few c.args.n _ (c.leader_holds.ensures.k_bound (passes 3 c.leader_holds.result (laws.rest c.args.card.now loop.at) z).holds')
