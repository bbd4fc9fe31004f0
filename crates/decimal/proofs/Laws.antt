-- A field that is blank or not, the last part of some bytes, and their width: each by computing the definition.
use Prim.Native.Nat.{ℕ, ◌-◌, ◌≤◌}
use mathlib.Core.Path.{◌≡◌, sym, ap, ◌∙◌}
use mathlib.Core.List.{List}
use native.Mathlib.Omega.{arith}
use lib.ListN.{length, take, drop, length-drop}
use lib.Seq.{slice, take-length, take_all}
use borrow.Author.Tests.{eq-eqb, ne_eqb}
use Rattle.digits.specs.Segments.{after_blanks}
use Rattle.digits.proofs.Laws.{one, none}
use Rattle.decimal.specs.Scan.{number_in, decimal_of, written}
use Rattle.decimal.specs.Forms.{width_of, shape_of}
use Rattle.decimal.specs.declared.Form.{Form}
use Rattle.decimal.specs.Written.{blank, badly}
use Rattle.decimal.specs.declared.Shape.{Shape}

-- a field that is blank, and one that is not
module _ (k : Shape) (f : List ℕ) (r : ℕ) (rest : slice r (length f) f ≡ after_blanks (slice 0 (length f) f)) where
  left_over : after_blanks f ≡ slice r (length f) f
  left_over = ap after_blanks (sym (take-length f)) ∙ sym rest

  pub blank_yes : r ≡ length f → decimal_of k f ≡ blank
  unfolding decimal_of
  blank_yes e = rw (left_over, none f r (length f) (omega arith) (omega arith))

  pub blank_no : r ≤ length f → (r ≡ length f → ⊥) → decimal_of k f ≡ number_in k f
  unfolding decimal_of
  blank_no h n = rw (left_over, one f r (length f) (omega arith) (omega arith))

pub last_part : (f : List ℕ) (e : ℕ) → take (length f - e) (drop e f) ≡ drop e f
last_part f e = take_all (length f - e) (drop e f) (simp length-drop (omega arith))

-- bytes of the form's width, and bytes that are not
module _ (k : Form) (f : List ℕ) where
  pub wide : length f ≡ width_of k → written k f ≡ decimal_of (shape_of k) f
  unfolding written
  wide e = rw (eq-eqb (length f) (width_of k) e)

  pub not_wide : (length f ≡ width_of k → ⊥) → written k f ≡ badly
  unfolding written
  not_wide n = rw (ne_eqb (length f) (width_of k) n)
