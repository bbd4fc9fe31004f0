-- What the view says, then 23, then 15, then the samples: each return is the definition at that case, and only the last writes.
use Rattle.std.proofs.Common.{◌*◌, rules}
use Rattle.copies.specs.Row.{copied_of, row_of}
use Rattle.lines.proofs.ViewLaws as views
use Rattle.copies.proofs.RowLaws as laws
use Rattle.copies.proofs.row_copy.Goals as goal

pub returns-in_err-shown : goal.returns-in_err-shown
unfolding copied_of row_of
returns-in_err-shown c = search rules

pub returns-then-x-ne-COUNTS : goal.returns-then-x-ne-COUNTS
unfolding copied_of row_of
returns-then-x-ne-COUNTS c = search rules

pub returns-then-row-count : goal.returns-then-row-count
unfolding copied_of row_of
returns-then-row-count c = search rules

pub overflow_add-to : goal.overflow_add-to
overflow_add-to c =
    let h = laws.counts_within c.args.bytes.now c.args.k _ c.sorted_view-x.ensures _ c.in_ok-shown.was c.if-x-ne-COUNTS.false in search rules

pub slice_bounds-write-end : goal.slice_bounds-write-end
slice_bounds-write-end c =
    laws.counts_within c.args.bytes.now c.args.k _ c.sorted_view-x.ensures _ c.in_ok-shown.was c.if-x-ne-COUNTS.false

pub returns : goal.returns
unfolding copied_of row_of
returns c =
    let px = views.part_is c.in_ok-shown.shown.start (2 * c.in_ok-shown.shown.count) c.args.bytes.now in search rules
