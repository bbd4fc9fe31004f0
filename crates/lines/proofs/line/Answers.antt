-- 13 outside 1 to n; else the line at its due record, which a plan with room for its lines keeps small.
use Rattle.std.proofs.Common.{rules}
use Rattle.lines.specs.View.{line_of}
use Rattle.lines.proofs.line.Goals as goal

pub returns-then-within : goal.returns-then-within
unfolding line_of
returns-then-within c = search rules

pub returns : goal.returns
unfolding line_of
returns c = search rules
