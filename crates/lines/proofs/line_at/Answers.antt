-- Too few bytes wait; a fault is the refusal of this record, near its start; else the record's pixels: the definition's three cases.
use native.Mathlib.Omega.{arith}
use Rattle.turns.specs.Turn.{Near}
use Rattle.lines.specs.View.{line_at}
use borrow.Author.Rules.{rules}
use mathlib.Core.Path.{sym, subst}
use Rattle.lines.proofs.ViewLaws as laws
use Rattle.lines.proofs.line_at.Goals as goal

pub returns-then-len-end : goal.returns-then-len-end
unfolding line_at
returns-then-len-end c = search rules

pub overflow_add-result : goal.overflow_add-result
overflow_add-result c = omega (
  arith,
  subst Near c.in-Err.is
      (subst Near (sym c.found.ensures) (laws.found_near _ _ _ _)),
  c.requires.lined.1.start,
)

pub returns-in-Err : goal.returns-in-Err
unfolding line_at
returns-in-Err c =
    let part = laws.part_is c.args.d.start c.args.d.length c.args.bytes.now in search rules

pub returns : goal.returns
unfolding line_at
returns c =
    let part = laws.part_is c.args.d.start c.args.d.length c.args.bytes.now in search rules
