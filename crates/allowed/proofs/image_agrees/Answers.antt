-- Within the ranges the agreements are computed without wrapping.
use native.Mathlib.Omega.{arith}
use native.Mathlib.Nat.{mul-le-mul}
use Rattle.plan.proofs.CodeLaws.{sort_modest}
use Rattle.plan.proofs.GoodLaws.{image_bounds}
use Rattle.allowed.proofs.image_agrees.Goals as goal

pub overflow_mul-sort : goal.overflow_mul-sort
overflow_mul-sort c =
    let b = image_bounds c.args.p c.requires in
    let g = sort_modest c.args.p.sort in
    rw c.sort_at-sort.ensures (omega (arith, mul-le-mul g.0 b.0))

pub overflow_add-result : goal.overflow_add-result
overflow_add-result c =
    let b = image_bounds c.args.p c.requires in
    let g = sort_modest c.args.p.sort in
    rw c.sort_at-sort.ensures (omega (arith, g.1, b.1))

pub overflow_add-result-then-p-sort : goal.overflow_add-result-then-p-sort
overflow_add-result-then-p-sort c =
    let b = image_bounds c.args.p c.requires in
    let g = sort_modest c.args.p.sort in
    rw c.sort_at-sort.ensures (omega (arith, g.1, b.1, b.2))
