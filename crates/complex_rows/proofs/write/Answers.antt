-- Behind the loop each number of the row's start is that one of four bytes.
use Rattle.std.proofs.Common.{◌≡◌, List, ℕ, ◌++◌, length, drop, ap, arith, rules}
use Rattle.complex_rows.proofs.PartLaws.{fours_are}
use Rattle.complex_rows.proofs.write.Goals as goal

pub returns : goal.returns
returns c =
    let args = c.args in
    let long : length c.loop-j.x-items ≡ args.count = search rules in
    ap (λ (l : List ℕ). l ++ drop args.count args.row.now)
    (fours_are args.count args.bytes.now args.start c.loop-j.x-items long (λ k h. c.loop-j.invariant k (omega arith)))
