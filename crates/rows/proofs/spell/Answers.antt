-- Each row's words and numbers, one behind the other.
use mathlib.Core.List.{[], ◌∷◌, ◌++◌}
use native.Mathlib.Omega.{arith}
use Rattle.decimal.specs.Text.{bytes}
use Rattle.writing.proofs.WrittenLaws.{stands, stays_later as later}
use Rattle.rows.proofs.TextLaws as laws
use borrow.Author.Rules.{rules}
use Rattle.rows.proofs.spell.Goals as goal

pub returns-in-Image : goal.returns-in-Image
returns-in-Image c =
    let one = c.part-a.ensures in
    let two = c.part-b.ensures in
    let end = stands _ _ _ (search rules) _ _ c.text.ensures.out_after c.text.ensures.value in
    record {
      line_after = laws.text_image _ _ _ _ [] [] _ _ c.in-Image.is one.line_after
          two.line_after end.0;
      line_unchanged = later c.part-b.result c.text.result _ _ _ (omega (arith, end.1.0)) end.1.1.1
          (later _ _ _ _ _ two.lower_bound two.line_unchanged one.line_unchanged);
      prefix_len = laws.counted _ _ end.1.1.0;
    }

pub returns-in-Line : goal.returns-in-Line
returns-in-Line c =
    let one = c.part-a-in-Line.ensures in
    let two = c.part-b-in-Line.ensures in
    let three = c.part-c.ensures in
    let four = c.part-d.ensures in
    let end = stands _ _ _ (search rules) _ _ c.text-in-Line.ensures.out_after c.text-in-Line.ensures.value in
    let behind = later _ _ _ _ _ three.lower_bound three.line_unchanged (later _ _ _ _ _ two.lower_bound two.line_unchanged one.line_unchanged) in
    record {
      line_after = laws.text_line _ _ _ _ _ _ _ _ _ _
          c.in-Line.is
          one.line_after two.line_after three.line_after four.line_after end.0;
      line_unchanged = later c.part-d.result c.text-in-Line.result _ _ _ (omega (arith, end.1.0)) end.1.1.1
          (later _ _ _ _ _ four.lower_bound four.line_unchanged behind);
      prefix_len = laws.counted _ _ end.1.1.0;
    }

pub returns-in-TooLong : goal.returns-in-TooLong
returns-in-TooLong c =
    let end = stands c.args.line.now 0 (bytes "RECORD TOO LONG" ++ (10 ∷ [])) (search rules) _ _
    c.text-in-TooLong.ensures.out_after c.text-in-TooLong.ensures.value in
    record { line_after = laws.text_long _ _ [] [] [] [] c.in-TooLong.is end.0; line_unchanged = end.1.1.1; prefix_len = laws.counted _ _ end.1.1.0 }

pub returns-in-Complete : goal.returns-in-Complete
returns-in-Complete c =
    let one = c.part-a-in-Complete.ensures in
    let two = c.part-b-in-Complete.ensures in
    let end = stands _ _ _ (search rules) _ _ c.text-in-Complete.ensures.out_after c.text-in-Complete.ensures.value in
    record {
      line_after = laws.text_complete _ _ _ _ [] [] _ _ c.in-Complete.is one.line_after
          two.line_after end.0;
      line_unchanged = later c.part-b-in-Complete.result c.text-in-Complete.result _ _ _ (omega (arith, end.1.0)) end.1.1.1
          (later _ _ _ _ _ two.lower_bound two.line_unchanged one.line_unchanged);
      prefix_len = laws.counted _ _ end.1.1.0;
    }

pub returns-in-Refused : goal.returns-in-Refused
returns-in-Refused c =
    let one = c.part-a-in-Refused.ensures in
    let two = c.part-b-in-Refused.ensures in
    let three = c.part-c-in-Refused.ensures in
    let end = stands _ _ _ (search rules) _ _ c.text-in-Refused.ensures.out_after c.text-in-Refused.ensures.value in
    let behind = later _ _ _ _ _ two.lower_bound two.line_unchanged one.line_unchanged in
    record {
      line_after = laws.text_refused _ _ _ _ _ [] _
          c.in-Refused.is one.line_after two.line_after
          three.line_after end.0;
      line_unchanged = later c.part-c-in-Refused.result c.text-in-Refused.result _ _ _ (omega (arith, end.1.0)) end.1.1.1
          (later _ _ _ _ _ three.lower_bound three.line_unchanged behind);
      prefix_len = laws.counted _ _ end.1.1.0;
    }
