-- The complex row copy of what the line view shows there.
use Rattle.std.proofs.Common.{rules}
use Rattle.complex_rows.specs.Parts.{parts_copied, parts_row}
use Rattle.complex_rows.proofs.complex_row.Goals as goal

pub returns : goal.returns
unfolding parts_copied parts_row
returns c = search rules
