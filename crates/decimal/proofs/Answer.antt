-- The grammar leaves one answer for any bytes, and it is the reader's: by `complete` each well-written field is read as what it says, by `sound` nothing
-- else is.
use Prim.Native.Nat.{ℕ}
use mathlib.Core.Path.{◌≡◌, refl, sym, ◌∙◌, subst}
use mathlib.Core.List.{List}
use mathlib.Core.Bool.{Bool, true, false}
use native.Mathlib.Omega.{arith}
use lib.Dec.{eqb}
use lib.ListN.{length}
use borrow.Author.Tests.{eqb-true, eqb-false}
use Rattle.decimal.specs.Forms.{width_of, shape_of}
use Rattle.decimal.specs.Scan.{written, Fit}
use Rattle.decimal.specs.Grammar.{Good, WellWritten, Means, well, badly, blank, whole, fixed, expo}
use Rattle.decimal.specs.declared.Form.{Form}
use Rattle.decimal.specs.declared.Form.TheVariants.{I4, I6, I8, I16, F8d3, F16d7, E20d13}
use Rattle.decimal.specs.declared.Shape.{Shape}
use Rattle.decimal.specs.Written.{Written, badly as badly_written}
use Rattle.decimal.proofs.Complete.{complete}
use Rattle.decimal.proofs.Sound.{Found, good, none, sound}
use Rattle.decimal.proofs.Laws as laws

-- each form in use fits its shape's bounds: a test that antt computes at each
pub fits : (k : Form) → Fit (shape_of k) (width_of k)
fits I4 = omega arith
fits I6 = omega arith
fits I8 = omega arith
fits I16 = omega arith
fits F8d3 = omega arith
fits F16d7 = omega arith
fits E20d13 = omega arith

pub fits_length : (k : Form) (bs : List ℕ) → length bs ≡ width_of k → Fit (shape_of k) (length bs)
fits_length k bs e = subst (Fit (shape_of k)) (sym e) (fits k)

-- nothing well written is bad
pub never : {k : Shape} {bs : List ℕ} {r : Written} → Good true k bs r → r ≡ badly_written → ⊥
never (blank k n) e = let z : ◌≡◌ {A = ℕ} 0 1 = cc in omega arith
never (whole w) e = let z : ◌≡◌ {A = ℕ} 0 1 = cc in omega arith
never (fixed w) e = let z : ◌≡◌ {A = ℕ} 0 1 = cc in omega arith
never (expo w g ds n l) e = let z : ◌≡◌ {A = ℕ} 0 1 = cc in omega arith

-- complete: a well-written field is read as what it says
pub reads : (k : Form) (bs : List ℕ) (r : Written) → WellWritten k bs r → written k bs ≡ r
reads k bs r f = laws.wide k bs f.0 ∙ complete (shape_of k) f.1

-- sound: what is read is what the bytes say
pub says : (k : Form) (bs : List ℕ) → Means k bs (written k bs)
says k bs = go (eqb (length bs) (width_of k)) refl
  where
    refused : written k bs ≡ badly_written → Means k bs badly_written
    refused e = badly (λ r f. never f.1 (sym (reads k bs r f) ∙ e))

    found : (r : Written) → length bs ≡ width_of k → written k bs ≡ r → Found (shape_of k) bs r → Means k bs r
    found r l e (good g) = well (l, g)
    found r l e none = refused e

    go : (b : Bool) → eqb (length bs) (width_of k) ≡ b → Means k bs (written k bs)
    go true e =
        let l = eqb-true (length bs) (width_of k) e in
        found (written k bs) l refl (subst (Found (shape_of k) bs) (sym (laws.wide k bs l)) (sound (shape_of k) bs))
    go false e =
        let q = laws.not_wide k bs (eqb-false (length bs) (width_of k) e) in
        subst (Means k bs) (sym q) (refused q)

-- the grammar leaves one answer: whatever bytes say is what is read
pub one : (k : Form) (bs : List ℕ) (r : Written) → Means k bs r → r ≡ written k bs
one k bs r (well f) = sym (reads k bs r f)
one k bs r (badly n) = go (written k bs) (says k bs)
  where
    go : (x : Written) → Means k bs x → badly_written ≡ x
    go x (well f) = absurd (n x f)
    go x (badly m) = refl
