-- The first record's length leaves room for every place behind it.
use mathlib.Core.Path.{sym, subst₂}
use native.Mathlib.Omega.{arith}
use Rattle.plan.specs.Plan.{Small}
use Rattle.plan.proofs.CodeLaws as laws
use Rattle.plan.proofs.spot_of.Goals as goal

pub find-requires : goal.find-requires
find-requires c =
    record {
      small = subst₂ Small (sym c.runs_of.ensures.0) (sym c.runs_of.ensures.1) c.requires;
      at_bound = omega (arith, c.first_length-first.ensures, laws.first_bound c.args.kind);
    }

pub returns-then-k-eq0-clause-spotted : goal.returns-then-k-eq0-clause-spotted
returns-then-k-eq0-clause-spotted c =
    record { run = omega arith; length = omega (arith, c.first_length-first.ensures, laws.first_bound c.args.kind); start = omega arith }
