-- Too long, or what the walk by one record says: each return is the definition at that stop.
use Prim.Native.Nat.{ℕ}
use mathlib.Core.Path.{refl}
use Rattle.rows.specs.declared.Row.TheVariants.{Complete}
use Rattle.listing.specs.declared.Say.TheVariants.{Want, Next, Last}
use mathlib.Core.Path.{sym, ap, ◌∙◌}
use Rattle.listing.proofs.TurnLaws as laws
use Rattle.listing.proofs.turn.Goals as goal

pub returns-then-too_long : goal.returns-then-too_long
returns-then-too_long c = laws.told_long c.args.st c.args.held.now c.args.closed
    (sym c.too_long.ensures ∙ c.if-too_long.true)

pub returns-in-Wait : goal.returns-in-Wait
returns-in-Wait c =
    let args = c.args in
    laws.told_say args.st args.held.now args.closed _ (sym c.too_long.ensures
    ∙ c.if-too_long.false) c.step-walked.ensures _ _
    c.in-Wait.is (ap Want c.want.ensures)

pub returns-in-Pause : goal.returns-in-Pause
returns-in-Pause c =
    let args = c.args in
    laws.told_say args.st args.held.now args.closed _ (sym c.too_long.ensures
    ∙ c.if-too_long.false) c.step-walked.ensures _ _ c.in-Pause.is
    (ap Next c.passed_row.ensures)

pub returns-in-Complete : goal.returns-in-Complete
returns-in-Complete c =
    let args = c.args in
    laws.told_say args.st args.held.now args.closed _ (sym c.too_long.ensures
    ∙ c.if-too_long.false) c.step-walked.ensures _ _ c.in-Complete.is
    (ap (λ (n : ℕ). Last (Complete c.step-walked.result.state.passed n)) c.start.ensures)

pub returns-in-Refused : goal.returns-in-Refused
returns-in-Refused c =
    let args = c.args in
    laws.told_say args.st args.held.now args.closed _ (sym c.too_long.ensures
    ∙ c.if-too_long.false) c.step-walked.ensures _ _ c.in-Refused.is refl
