-- What is left of the walk from the state reached, behind the records passed, is the whole walk: the loop's invariant. A bad state is answered before the
-- loop, a passed record leaves a good one, and lines that pass one after the other are as many turns.
use Rattle.walk.specs.declared.State.{State}
use Rattle.ahead.proofs.LineLaws.{rest, rest_room}
use Rattle.walk.proofs.AheadLaws.{turn_ahead}
use Rattle.walk.proofs.LoopLaws as laws
use Rattle.walk.proofs.TurnLaws as turn-laws
use Rattle.walk.proofs.GoodLaws as good-laws
use Rattle.turns.specs.declared.Stop.{Stop}
use Rattle.walk.specs.Walk.{walk_of, more, stopped}
use Rattle.walk.specs.State.{good_state}
use Rattle.plan.specs.declared.Due.{Due}
use Rattle.plan.specs.declared.Plan.{Plan}
use Rattle.plan.specs.Plan.{records_most}
use Rattle.std.proofs.lemmas.Result.{IfOk-at_ok}
use native.Mathlib.Nat.{sub-zero}
use native.Mathlib.Omega.{arith}
use mathlib.Core.Path.{sym, ap, ◌∙◌}
use Prim.Native.Nat.{ℕ, ◌+◌, ◌*◌, ◌≤◌}
use Rattle.walk.proofs.State.walk.Goals as goal

pub returns-then-not-good : goal.returns-then-not-good
returns-then-not-good c = ap (λ (x : Stop). stopped c.args.self x) c.bad_stop.ensures
    ∙ sym (laws.walk_bad c.args.self c.args.bytes.now
    c.args.closed c.args.budget (sym c.good.ensures
    ∙ c.if-not-good.true))

pub loop-n-init : goal.loop-n-init
loop-n-init c = (
  omega arith,
  omega arith,
  sym c.good.ensures ∙ c.if-not-good.false,
  laws.more_none (walk_of c.args.budget c.args.self c.args.bytes.now
      c.args.closed)
      ∙ ap (λ (f : ℕ). more 0
      (walk_of f c.args.self c.args.bytes.now c.args.closed))
      (sym (sub-zero c.args.budget)),
)

pub due_of-due-requires : goal.due_of-due-requires
due_of-due-requires c =
    let r = good-laws.ready c.loop-n.st c.loop-n.invariant.2 in
    record { small = r.small; k_bound = r.within }

pub judge-requires : goal.judge-requires
judge-requires c =
    record {
      small = (good-laws.ready c.loop-n.st c.loop-n.invariant.2).small;
      k_bound = ((good-laws.ready c.loop-n.st c.loop-n.invariant.2).within, c.due_of-due.ensures.placed);
    }

pub returns-in-Err : goal.returns-in-Err
returns-in-Err c = let l = c.loop-n in
    let a = c.args in
    let t = turn-laws.halts l.st (rest a.bytes.now l.at) a.closed c.due_of-due.ensures.value c.judge.ensures.value c.in-Err.is in
    sym (l.invariant.3 ∙ laws.turn_halt a.budget l.n l.at l.st a.bytes.now a.closed _
    c.loop-n-test.true l.invariant.2 t)

pub overflow_add-at : goal.overflow_add-at
overflow_add-at c = let l = c.loop-n in
    let a = c.args in
    let t = turn-laws.passes l.st (rest a.bytes.now l.at) a.closed c.due_of-due.ensures.value c.judge.ensures.value c.in-Ok.is in
    omega (
      arith,
      laws.pass_room a.budget l.n l.at l.st a.bytes.now a.closed c.due_of-due.result.length
          l.invariant.0 t (ap (λ (x : Due). x.length) c.due_of-due.ensures.value),
    )

pub next-st-requires : goal.next-st-requires
next-st-requires c = omega (arith, IfOk-at_ok (λ (q : Plan). c.loop-n.st.passed ≤ records_most) c.in-Ok.is c.judge.ensures.k_le_records_most)

pub overflow_add-n : goal.overflow_add-n
overflow_add-n c = omega (
  arith,
  c.loop-n-test.true,
  c.ranges,
)

pub slice_bounds-ahead-count : goal.slice_bounds-ahead-count
slice_bounds-ahead-count c = let l = c.loop-n in
    let a = c.args in
    let t = turn-laws.passes l.st (rest a.bytes.now l.at) a.closed c.due_of-due.ensures.value c.judge.ensures.value c.in-Ok.is in
    laws.pass_room a.budget l.n l.at l.st a.bytes.now a.closed c.due_of-due.result.length
    l.invariant.0 t (ap (λ (x : Due). x.length) c.due_of-due.ensures.value)

pub slice_bounds-ahead-start : goal.slice_bounds-ahead-start
slice_bounds-ahead-start c = let l = c.loop-n in
    let a = c.args in
    let t = turn-laws.passes l.st (rest a.bytes.now l.at) a.closed c.due_of-due.ensures.value c.judge.ensures.value c.in-Ok.is in
    omega (
      arith,
      laws.pass_room a.budget l.n l.at l.st a.bytes.now a.closed
          c.due_of-due.result.length l.invariant.0 t
          (ap (λ (x : Due). x.length) c.due_of-due.ensures.value),
    )

pub ahead-c-requires : goal.ahead-c-requires
ahead-c-requires c = let l = c.loop-n in
    let a = c.args in
    let t = turn-laws.passes l.st (rest a.bytes.now l.at) a.closed c.due_of-due.ensures.value c.judge.ensures.value c.in-Ok.is in
    ap good_state (c.next-st.ensures
    ∙ turn-laws.next_is l.st (rest a.bytes.now l.at) a.closed c.due_of-due.ensures.value
    c.judge.ensures.value c.in-Ok.is)
    ∙ turn-laws.good_next l.st _ a.closed l.invariant.2 t

pub overflow_mul-at : goal.overflow_mul-at
overflow_mul-at c = let l = c.loop-n in
    let a = c.args in
    let t = turn-laws.passes l.st (rest a.bytes.now l.at) a.closed c.due_of-due.ensures.value c.judge.ensures.value c.in-Ok.is in
    let h = laws.pass_room a.budget l.n l.at l.st a.bytes.now a.closed
    c.due_of-due.result.length l.invariant.0 t
    (ap (λ (x : Due). x.length) c.due_of-due.ensures.value) in
    omega (
      arith,
      rest_room a.bytes.now (l.at + c.due_of-due.result.length)
          (c.ahead-c.result * c.next-st.result.plan.l) h c.ahead-c.ensures.room,
      c.well_formed,
      c.ranges,
    )

pub overflow_add-at-in-loop-n : goal.overflow_add-at-in-loop-n
overflow_add-at-in-loop-n c = let l = c.loop-n in
    let a = c.args in
    let t = turn-laws.passes l.st (rest a.bytes.now l.at) a.closed c.due_of-due.ensures.value c.judge.ensures.value c.in-Ok.is in
    let h = laws.pass_room a.budget l.n l.at l.st a.bytes.now a.closed
    c.due_of-due.result.length l.invariant.0 t
    (ap (λ (x : Due). x.length) c.due_of-due.ensures.value) in
    omega (
      arith,
      rest_room a.bytes.now (l.at + c.due_of-due.result.length)
          (c.ahead-c.result * c.next-st.result.plan.l) h c.ahead-c.ensures.room,
      c.well_formed,
      c.ranges,
    )

pub overflow_add-st : goal.overflow_add-st
overflow_add-st c = let l = c.loop-n in
    let a = c.args in
    let e = ap (λ (x : State). x.passed) c.next-st.ensures in
    omega (
      arith,
      e,
      c.ahead-c.ensures.small,
      IfOk-at_ok (λ (q : Plan). c.loop-n.st.passed ≤ records_most) c.in-Ok.is c.judge.ensures.k_le_records_most,
    )

pub overflow_add-n-in-loop-n : goal.overflow_add-n-in-loop-n
overflow_add-n-in-loop-n c = omega (
  arith,
  c.ahead-c.ensures.few,
  c.loop-n-test.true,
  c.ranges,
)

pub loop-n-smaller : goal.loop-n-smaller
loop-n-smaller c = omega (
  arith,
  c.ahead-c.ensures.few,
  c.loop-n-test.true,
)

pub loop-n-preserved : goal.loop-n-preserved
loop-n-preserved c = let l = c.loop-n in
    let a = c.args in
    let t = turn-laws.passes l.st (rest a.bytes.now l.at) a.closed c.due_of-due.ensures.value c.judge.ensures.value c.in-Ok.is in
    let e = ap (λ (x : Due). x.length) c.due_of-due.ensures.value in
    let h = laws.pass_room a.budget l.n l.at l.st a.bytes.now a.closed
    c.due_of-due.result.length l.invariant.0 t e in (
      rest_room a.bytes.now (l.at + c.due_of-due.result.length)
          (c.ahead-c.result * c.next-st.result.plan.l) h c.ahead-c.ensures.room,
      omega (
        arith,
        c.ahead-c.ensures.few,
        c.loop-n-test.true,
      ),
      c.ahead-c.ensures.good,
      l.invariant.3 ∙ laws.turn_pass a.budget l.n l.at l.st a.bytes.now a.closed
          c.due_of-due.result.length c.next-st.result
          c.loop-n-test.true l.invariant.2 t e
          (c.next-st.ensures
          ∙ turn-laws.next_is l.st (rest a.bytes.now l.at) a.closed
          c.due_of-due.ensures.value
          c.judge.ensures.value c.in-Ok.is)
          ∙ turn_ahead a.budget (l.n + 1) (l.at + c.due_of-due.result.length)
          c.ahead-c.result c.next-st.result a.bytes.now a.closed
          (omega (arith, c.loop-n-test.true))
          c.ahead-c.ensures,
    )

pub returns : goal.returns
returns c = let l = c.loop-n in
    sym (l.invariant.3 ∙ laws.walk_end c.args.budget l.n l.at l.st
    c.args.bytes.now c.args.closed c.loop-n-test.false
    l.invariant.2)
