-- Twice as many numbers as samples are the samples' parts, whichever loop writes them.
use Rattle.std.proofs.Common.{◌*◌, List, ℕ, ◌++◌, drop, ap, ◌∙◌}
use Rattle.complex_rows.proofs.PartLaws.{parts_fours}
use Rattle.complex_rows.proofs.fill.Goals as goal

pub returns-then-count-len : goal.returns-then-count-len
returns-then-count-len c =
    let args = c.args in
    let same = parts_fours args.bytes.now args.start args.count in
    c.write.ensures ∙ ap (λ (l : List ℕ). l ++ drop (2 * args.count) args.row.now) same

pub returns-else-start-len : goal.returns-else-start-len
returns-else-start-len c =
    let args = c.args in
    let same = parts_fours args.bytes.now args.start args.count in
    c.write_short.ensures ∙ ap (λ (l : List ℕ). l ++ drop (2 * args.count) args.row.now) same
