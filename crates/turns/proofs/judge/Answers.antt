-- Steps 3 to 7 in the page's order: each return is the definition's case at what was found; every number of it fits since the due record is small and the
-- fault near.
use mathlib.Core.Path.{sym, ap, ◌∙◌, subst}
use native.Mathlib.Omega.{arith}
use lib.Seq.{length-take-le}
use Rattle.std.specs.Prelude.{Result, Ok, Err, OnOk}
use Rattle.std.proofs.lemmas.Result.{err_from_is_err_and}
use Rattle.words.specs.declared.Refusal.{Refusal}
use Rattle.plan.specs.declared.Plan.{Plan}
use Rattle.turns.specs.Turn.{Near, passed_of}
use Rattle.turns.proofs.FaultLaws.{found_near, header_near}
use Rattle.turns.proofs.TurnLaws as laws
use Rattle.turns.proofs.judge.Goals as goal

on_ok : {T E P : Type 0} (r : Result T E) → P → OnOk r P
on_ok (Ok x) h = h
on_ok (Err e) h = tt

pub returns-then-total-k : goal.returns-then-total-k
returns-then-total-k c =
    let a = c.args in
    record {
      value = laws.halted_answer a.kind a.p a.k a.d a.b.now a.closed c.ended.ensures
          (laws.judge_ended _ _ _ _ _ _ (omega (arith, c.total.ensures.0)));
      k_le_records_most = tt;
    }

pub returns-then-len-lt12 : goal.returns-then-len-lt12
returns-then-len-lt12 c =
    let a = c.args in
    record {
      value = laws.halted_answer a.kind a.p a.k a.d a.b.now a.closed c.short.ensures
          (laws.judge_twelve _ _ _ _ _ _ (omega (arith, c.total.ensures.0)) c.if-len-lt12.true);
      k_le_records_most = tt;
    }

pub passed-requires : goal.passed-requires
passed-requires c = (c.requires.k_bound.1, subst Near (sym c.header.ensures) (header_near _ _ _ _))

pub returns-in_err-passed : goal.returns-in_err-passed
returns-in_err-passed c =
    let a = c.args in
    let p = err_from_is_err_and c.from_residual.result c.from_residual.ensures.1 in
    let h = laws.header_halts a.kind a.p a.k a.d a.b.now a.closed (omega (arith, c.total.ensures.0)) c.if-len-lt12.false
    _ _ (sym c.header.ensures) (sym c.passed.ensures ∙ c.in_err-passed.was) in
    rw (p.1, p.2)
    (record { value = laws.halted_is a.kind a.p a.k a.d a.b.now a.closed h; k_le_records_most = tt })

pub returns-then-len-d : goal.returns-then-len-d
returns-then-len-d c =
    let a = c.args in
    record {
      value = laws.halted_answer a.kind a.p a.k a.d a.b.now a.closed c.short-then-len-d.ensures
          (laws.judge_part _ _ _ _ _ _ (omega (arith, c.total.ensures.0)) c.if-len-lt12.false
          (sym c.header.ensures ∙ laws.header_passes a.kind a.p a.k a.d a.b.now a.closed _ _ (sym c.passed.ensures ∙ c.in_ok-passed.was)) c.if-len-d.true);
      k_le_records_most = tt;
    }

pub slice_bounds-judge-end : goal.slice_bounds-judge-end
slice_bounds-judge-end c = sym (length-take-le _ c.args.b.now (omega arith))

pub passed-requires-2 : goal.passed-requires-2
passed-requires-2 c = (c.requires.k_bound.1, subst Near (sym c.judge.ensures) (found_near _ _ _ _ _))

pub returns : goal.returns
returns c =
    let a = c.args in
    record {
      value = c.passed-2.ensures ∙ ap (λ (f : Result Plan Refusal). passed_of f a.d) c.judge.ensures
          ∙ laws.passed_is a.kind a.p a.k a.d a.b.now a.closed
          (laws.judge_body _ _ _ _ _ _ (omega (arith, c.total.ensures.0)) c.if-len-lt12.false
          (sym c.header.ensures ∙ laws.header_passes a.kind a.p a.k a.d a.b.now a.closed _ _ (sym c.passed.ensures ∙ c.in_ok-passed.was)) c.if-len-d.false);
      k_le_records_most = on_ok c.passed-2.result (omega (arith, c.total.ensures.0, c.total.ensures.1));
    }
