-- What is left to judge behind the lines that pass is the whole judging of the lines.
use Prim.Native.Nat.{ℕ, ◌+◌, ◌-◌, ◌*◌}
use mathlib.Core.Path.{◌≡◌, sym, ap, ◌∙◌}
use mathlib.Core.Bool.{Bool}
use native.Mathlib.Omega.{arith}
use lib.ListN.{drop}
use Rattle.std.specs.Prelude.{Ok}
use Rattle.std.proofs.lemmas.Result.{err_from_is_err_and}
use Rattle.cards.specs.Check.{body_of, fault_of, judged, lines_of}
use Rattle.cards.proofs.LoopLaws as laws
use Rattle.cards.proofs.lines.Goals as goal

pub returns-in_err-fault : goal.returns-in_err-fault
returns-in_err-fault c =
    let n = c.args.n in
    let k = c.loop-k.k in
    let card = c.args.card.now in
    let p = err_from_is_err_and c.from_residual.result c.from_residual.ensures.1 in
    let e = ap (λ (t : Bool). judged {A = Unit {0}} (fault_of 2 t (laws.rest card (17 + 13 * k))) (17 + 13 * k) (Ok tt)) (sym c.line_holds.ensures)
    ∙ sym c.fault.ensures ∙ c.in_err-fault.was in
    p.1 ∙ rw (p.2) (laws.lines_wrong n k c.args.w (17 + 13 * k) card _ c.loop-k-test.true e) ∙ sym c.loop-k.invariant.1

pub loop-k-preserved : goal.loop-k-preserved
unfolding body_of
loop-k-preserved c =
    let n = c.args.n in
    let k = c.loop-k.k in
    let w = c.args.w in
    let card = c.args.card.now in
    let z : fault_of 2 c.line_holds.result (laws.rest card (17 + 13 * k)) ≡ Ok tt =
    laws.judged_ok _ (17 + 13 * k) (sym c.fault.ensures ∙ c.in_ok-fault.was) in
    let e = ap (λ (t : Bool). fault_of 2 t (laws.rest card (17 + 13 * k))) (sym c.line_holds.ensures) ∙ z in
    let next : 17 + 13 * k + 13 ≡ 17 + 13 * (k + 1) = omega arith in (
      omega (arith, laws.pass_room 2 (17 + 13 * k) c.line_holds.result card c.loop-k.invariant.0 z),
      c.loop-k.invariant.1 ∙ laws.lines_next n k w (17 + 13 * k) card c.loop-k-test.true e
          ∙ ap (λ (i : ℕ). lines_of (n - (k + 1)) (k + 1) w i (drop i card)) next,
    )

pub returns : goal.returns
returns c =
    let k = c.loop-k.k in
    laws.lines_end c.args.n k c.args.w (17 + 13 * k) c.args.card.now c.loop-k-test.false ∙ sym c.loop-k.invariant.1
