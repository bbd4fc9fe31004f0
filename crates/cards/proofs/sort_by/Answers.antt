-- A group is modest, and so is its product with a number of four bytes.
use native.Mathlib.Omega.{arith}
use native.Mathlib.Nat.{mul-le-mul}
use Rattle.plan.proofs.CodeLaws.{sort_modest}
use Rattle.cards.proofs.sort_by.Goals as goal

pub overflow_mul-sort_at : goal.overflow_mul-sort_at
overflow_mul-sort_at c = rw c.sort_at.ensures (omega (arith, mul-le-mul (sort_modest 1).0 c.requires))
