-- The directory's refusal, a list of the wrong length, the first pointer that differs: the definition's three cases. Its walk is begun.
use Prim.Native.Nat.{◌≤◌}
use mathlib.Core.Path.{refl, sym, ap, ◌∙◌, subst}
use native.Mathlib.Omega.{arith}
use Rattle.walk.specs.declared.Walked.{Walked}
use Rattle.walk.proofs.BegunLaws.{begun_walks, not_refused}
use Rattle.sets.specs.Set.{differs}
use Rattle.sets.proofs.SetLaws as laws
use Rattle.sets.proofs.check.Goals as goal

pub returns-in_err-fresh : goal.returns-in_err-fresh
returns-in_err-fresh c = absurd (not_refused 1 refl _ (sym c.in_err-fresh.was ∙ c.begin.ensures))

pub returns-in-Refused : goal.returns-in-Refused
returns-in-Refused c =
    let args = c.args in
    let w = begun_walks 1 9 args.directory.now _ refl _ c.walk-walked.result (sym c.in_ok-fresh.was ∙ c.begin.ensures) c.walk-walked.ensures in
    laws.set_refused args.directory.now args.counts.now _ w _ c.in-Refused.is

pub returns-then-counts-walked : goal.returns-then-counts-walked
returns-then-counts-walked c =
    let args = c.args in
    let w = begun_walks 1 9 args.directory.now _ refl _ c.walk-walked.result (sym c.in_ok-fresh.was ∙ c.begin.ensures) c.walk-walked.ensures in
    c.differing.ensures ∙ ap differs c.place.ensures
    ∙ laws.set_length args.directory.now args.counts.now _ w c.in_default.not-Refused c.if-counts-walked.true

pub compare-requires : goal.compare-requires
compare-requires c =
    let args = c.args in
    let w = begun_walks 1 9 args.directory.now _ refl _ c.walk-walked.result (sym c.in_ok-fresh.was ∙ c.begin.ensures) c.walk-walked.ensures in
    omega (arith, c.if-counts-walked.false, subst (λ (v : Walked). v.state.plan.pointers ≤ 6) (sym w) (laws.few_pointers args.directory.now))

pub returns : goal.returns
returns c =
    let args = c.args in
    let w = begun_walks 1 9 args.directory.now _ refl _ c.walk-walked.result (sym c.in_ok-fresh.was ∙ c.begin.ensures) c.walk-walked.ensures in
    c.compare.ensures ∙ laws.set_compare args.directory.now args.counts.now _ w c.in_default.not-Refused c.if-counts-walked.false
