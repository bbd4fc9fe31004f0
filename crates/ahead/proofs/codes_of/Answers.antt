-- The sort's code, which is a byte, between the codes that every line has.
use mathlib.Core.Path.{ap}
use Prim.Native.Nat.{◌+◌, ◌*◌}
use native.Mathlib.Omega.{arith}
use Rattle.plan.specs.declared.Sort.{Sort}
use Rattle.plan.proofs.CodeLaws.{sort_code}
use Rattle.ahead.proofs.codes_of.Goals as goal

pub overflow_add-result : goal.overflow_add-result
overflow_add-result c = omega (arith, sort_code c.args.sort, ap (λ (s : Sort). s.code) c.sort_at.ensures)

pub overflow_mul-result-2 : goal.overflow_mul-result-2
overflow_mul-result-2 c = omega (arith, sort_code c.args.sort, ap (λ (s : Sort). s.code) c.sort_at.ensures)

pub overflow_add-result-3 : goal.overflow_add-result-3
overflow_add-result-3 c = omega (arith, sort_code c.args.sort, ap (λ (s : Sort). s.code) c.sort_at.ensures)

pub returns : goal.returns
returns c = ap (λ (s : Sort). (50 * 256 + s.code) * 65536 + (18 * 256 + 20)) c.sort_at.ensures
