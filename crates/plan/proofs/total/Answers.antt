-- One for the first record and the sum of the runs, which is the library's.
use Prim.Native.Nat.{ℕ, ◌+◌}
use mathlib.Core.Path.{◌≡◌, ap, ◌∙◌}
use native.Mathlib.Omega.{arith}
use lib.ListN.{length}
use borrow.Author.Rules.{rules}
use Rattle.plan.specs.Tables.{rows}
use Rattle.plan.proofs.Bounds.{total_small}
use Rattle.plan.proofs.RunLaws.{total_is}
use Rattle.plan.proofs.total.Goals as goal

pub sum-requires : goal.sum-requires
sum-requires c =
    let e : length c.args.p.counts ≡ rows = search rules in
    let s = total_is c.args.kind c.args.p _ c.runs_of.ensures.0 in
    omega (arith, s, total_small c.args.kind c.args.p e c.requires)

pub overflow_add-result : goal.overflow_add-result
overflow_add-result c =
    let e : length c.args.p.counts ≡ rows = search rules in
    let s = total_is c.args.kind c.args.p _ c.runs_of.ensures.0 in
    omega (arith, s, c.sum.ensures, total_small c.args.kind c.args.p e c.requires)

pub returns : goal.returns
returns c =
    let e : length c.args.p.counts ≡ rows = search rules in
    let s = ap (λ (n : ℕ). 1 + n) c.sum.ensures ∙ total_is c.args.kind c.args.p _ c.runs_of.ensures.0 in
    (s, omega (arith, s, total_small c.args.kind c.args.p e c.requires))
