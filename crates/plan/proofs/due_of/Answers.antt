-- The spot's numbers beside the run's codes; no more records are planned than fit.
use mathlib.Core.Path.{◌≡◌}
use native.Mathlib.Omega.{arith}
use lib.ListN.{length}
use Rattle.plan.specs.Tables.{rows}
use Rattle.plan.proofs.Bounds.{total_small}
use borrow.Author.Rules.{rules}
use Rattle.plan.proofs.due_of.Goals as goal

pub overflow_add-result : goal.overflow_add-result
overflow_add-result c = let e : length c.args.p.counts ≡ rows = search rules in omega
    (arith, total_small c.args.kind c.args.p e c.requires.small)

pub returns : goal.returns
returns c =
    let a = c.args in
    let e : length a.p.counts ≡ rows = search rules in
    let s = c.spot_of-s.ensures in
    record {
      value = rw (c.codes_of.ensures, s.value);
      placed = record { ordinal = omega (arith, total_small a.kind a.p e c.requires.small); length = s.spotted.length; start = s.spotted.start };
    }
