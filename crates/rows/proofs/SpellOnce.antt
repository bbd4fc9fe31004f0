-- No second outcome fits `spell`'s promise: the row's length is that of its text, and the line is the text and, behind it, what stood there.
use Prim.Native.Nat.{ℕ, ◌≤◌}
use mathlib.Core.Path.{◌≡◌, sym, ap, ap₂, ◌∙◌}
use mathlib.Core.List.{List, ◌++◌}
use lib.ListN.{length, take, drop, take-append-drop}
use lib.Seq.{length-take-le}
use Rattle.rows.specs.Text.{text_of}
use Rattle.rows.specs.declared.Row.{Row}

-- what the promise says of an outcome, for a line that held `before`
pub record Spelt (row : Row) (before : List ℕ) (r : ℕ) (line : List ℕ) : Type 0 where
  pub text : take r line ≡ text_of row
  pub behind : drop r line ≡ drop r before
  pub within : r ≤ length line

module _ (row : Row) (before : List ℕ) {r : ℕ} {line : List ℕ} (s : Spelt row before r line) where
  end_is : r ≡ length (text_of row)
  end_is = sym (length-take-le r line s.within) ∙ ap length s.text

  line_is : line ≡ text_of row ++ drop (length (text_of row)) before
  line_is = sym (take-append-drop r line) ∙ ap₂ ◌++◌ s.text (s.behind ∙ ap (λ (n : ℕ). drop n before) end_is)

pub spell_once : (row : Row) (before : List ℕ) {r r' : ℕ} {line line' : List ℕ} → Spelt row before r line → Spelt row before r' line'
    → (r ≡ r') × (line ≡ line')
spell_once row before s t = (end_is row before s ∙ sym (end_is row before t), line_is row before s ∙ sym (line_is row before t))
