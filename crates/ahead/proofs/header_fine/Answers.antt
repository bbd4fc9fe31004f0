-- The three tests of a header, on its numbers as read; of bytes, one number is the same exactly where its four are.
use Prim.Native.Nat.{◌+◌}
use mathlib.Core.Path.{◌∙◌}
use native.Mathlib.Omega.{arith}
use borrow.Author.Rules.{rules}
use borrow.Author.Tests.{tests}
use Rattle.ahead.proofs.LineLaws.{header_held}
use Rattle.ahead.proofs.header_fine.Goals as goal

pub returns-then-coded-codes : goal.returns-then-coded-codes
returns-then-coded-codes c = search (tests, rules) ∙ header_held c.args.b.now c.args.sort (c.args.k + 1) c.args.l (λ i. omega (arith, c.type_inv.b i))

pub returns-else-coded-codes : goal.returns-else-coded-codes
returns-else-coded-codes c = search (tests, rules) ∙ header_held c.args.b.now c.args.sort (c.args.k + 1) c.args.l (λ i. omega (arith, c.type_inv.b i))
