-- The line's record as the plan's runs have it, since an image has the one run.
use Prim.Native.Nat.{ℕ, ◌+◌, ◌-◌, ◌*◌}
use mathlib.Core.Path.{refl, sym, ap₂, ◌∙◌}
use native.Mathlib.Omega.{arith}
use Rattle.plan.specs.Plan.{first_length}
use Rattle.plan.specs.declared.Codes.{Codes}
use Rattle.lines.proofs.FoundLaws.{due_is, lines_before, line_room}
use Rattle.lines.proofs.line_due.Goals as goal

pub overflow_mul-result : goal.overflow_mul-result
overflow_mul-result c =
    let args = c.args in
    omega (arith, lines_before args.p args.k c.requires.0 c.requires.2)

pub overflow_add-result-2 : goal.overflow_add-result-2
unfolding first_length
overflow_add-result-2 c =
    let args = c.args in
    omega (arith, lines_before args.p args.k c.requires.0 c.requires.2, c.first_length.ensures)

pub returns : goal.returns
unfolding first_length
returns c =
    let args = c.args in
    let pre = c.requires in
    let before = lines_before args.p args.k pre.0 pre.2 in
    let room = line_room args.p pre.0 (omega arith) in
    record {
      value = ap₂ (λ (x : Codes) (n : ℕ). record { ordinal = args.k + 1; run = 1; codes = x; length = args.p.l; start = n + (args.k - 1) * args.p.l })
          c.line_codes.ensures c.first_length.ensures
          ∙ sym (due_is args.p args.k pre.1 pre.2);
      placed = (
        record { ordinal = omega (arith, pre.0.lines); length = pre.0.long; start = omega (arith, c.first_length.ensures) },
        refl,
        omega arith,
      );
    }
