-- A row's text is its words and numbers, one behind the other: each part is put behind what stands there. By the equations of the parts.
use Prim.Native.Nat.{ℕ, ◌+◌, ◌≤◌}
use mathlib.Core.Path.{◌≡◌, sym, ap, ◌∙◌}
use mathlib.Core.List.{List, [], ◌∷◌, ◌++◌, append_assoc}
use native.Mathlib.Omega.{arith}
use lib.ListN.{length, take, drop}
use lib.Seq.{length-take-le}
use Rattle.io.specs.Counts.{IsPrefixLen}
use Rattle.words.specs.declared.Refusal.{Refusal}
use Rattle.decimal.specs.Text.{bytes}
use Rattle.writing.specs.Writing.{written, numeral}
use Rattle.writing.proofs.NumeralLaws.{numeral_length}
use Rattle.writing.proofs.WrittenLaws.{length_written, stands, stays_later}
use Rattle.rows.specs.Text.{with, text_of}
use Rattle.rows.specs.declared.Row.{Row}
use Rattle.rows.specs.declared.Row.TheVariants.{Image, Line, TooLong, Complete, Refused}

-- a word, then a number, behind what stands there; the rest stays
module _ (l m e : List ℕ) (at r end n : ℕ) (word : List ℕ) where
  pub part_is : at + length word + 20 ≤ length l → (m ≡ written l at word) × (r ≡ at + length word) → (e ≡ written m r (numeral n)) ×
      (end ≡ r + length (numeral n))
      → (take end e ≡ with (take at l) word n) × ((end ≤ at + length word + 20) × ((at ≤ end) × (drop end e ≡ drop end l)))
  part_is h (p, q) (p', q') =
      let few = numeral_length 20 n in
      let s = stands l at word (omega arith) r m p q in
      let s' = stands m r (numeral n) (omega (arith, length_written l at word (omega arith) m p)) end e p' q' in (
        s'.0 ∙ ap (λ (t : List ℕ). t ++ numeral n) s.0 ∙ append_assoc (take at l) word (numeral n),
        (omega arith, (omega arith, stays_later r end m l e (omega arith) s'.1.1.1 s.1.1.1)),
      )

-- ---- the rows: what stands in the line, part after part

module _ (row : Row) (a b c d e : List ℕ) where
  pub text_image : (n w : ℕ) → row ≡ Image n w → a ≡ with [] (bytes "IMAGE ") n → b ≡ with a (bytes " LINES ") w → c ≡ b ++
      (bytes " PIXELS" ++ (10 ∷ [])) → c ≡ text_of row
  unfolding text_of
  text_image n w q x y z = z ∙ rw (y, x, q)

  pub text_line : (k l m r : ℕ) → row ≡ Line k l m r → a ≡ with [] [] k → b ≡ with a (bytes " ") l → c ≡ with b (bytes " ") m → d ≡ with c
      (bytes " ") r → e ≡ d ++ (10 ∷ [])
      → e ≡ text_of row
  unfolding text_of
  text_line k l m r q x y z u v = v ∙ rw (u, z, y, x, q)

  pub text_long : row ≡ TooLong → a ≡ bytes "RECORD TOO LONG" ++ (10 ∷ []) → a ≡ text_of row
  unfolding text_of
  text_long q x = x ∙ rw q

  pub text_complete : (r n : ℕ) → row ≡ Complete r n → a ≡ with [] (bytes "COMPLETE ") r → b ≡ with a (bytes " RECORDS ") n → c ≡ b ++
      (bytes " BYTES" ++ (10 ∷ [])) → c ≡ text_of row
  unfolding text_of
  text_complete r n q x y z = z ∙ rw (y, x, q)

  pub text_refused : (x : Refusal) → row ≡ Refused x → a ≡ with [] (bytes "REFUSED ") x.number → b ≡ with a (bytes " RECORD ")
      x.«record» → c ≡ with b (bytes " AT ") x.place
      → d ≡ c ++ (10 ∷ []) → d ≡ text_of row
  unfolding text_of
  text_refused x q s t u v = v ∙ rw (u, t, s, q)

-- a length within the line counts its first bytes
pub counted : (r : ℕ) (l : List ℕ) → r ≤ length l → IsPrefixLen r l
counted r l h = (h, sym (length-take-le r l h))
