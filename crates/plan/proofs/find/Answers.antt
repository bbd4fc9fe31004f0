-- The search from run i on for what is left of k is the search from the first run for k; the bounds on each run leave room for every sum.
use Prim.Native.Nat.{ℕ, ◌+◌}
use mathlib.Core.Path.{◌≡◌, sym, ap, ◌∙◌}
use native.Mathlib.Omega.{arith}
use Rattle.plan.proofs.RunLaws as laws
use Rattle.plan.proofs.find.Goals as goal

pub returns-then-left-count-clause-value : goal.returns-then-left-count-clause-value
returns-then-left-count-clause-value c =
    let l = c.loop-i in
    sym (l.invariant.4 ∙ laws.spot_here l.i l.left l.start c.args.runs.counts c.args.runs.lengths (omega arith) (omega arith) c.if-left-count.true)

pub loop-i-preserved : goal.loop-i-preserved
loop-i-preserved c =
    let l = c.loop-i in (
      omega (arith, l.invariant.3.area l.i (omega arith)),
      l.invariant.1,
      l.invariant.2,
      l.invariant.3,
      l.invariant.4 ∙ laws.spot_next l.i l.left l.start c.args.runs.counts c.args.runs.lengths (omega arith) (omega arith) c.if-left-count.false,
    )

pub returns-clause-value : goal.returns-clause-value
returns-clause-value c =
    let l = c.loop-i in
    let e : l.i + 1 ≡ 18 = omega arith in
    sym (l.invariant.4 ∙ laws.spot_end l.i l.left l.start c.args.runs.counts c.args.runs.lengths (omega arith)
    ∙ ap (λ (n : ℕ). record { run = n; length = 0; start = l.start }) e)
