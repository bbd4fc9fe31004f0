-- The columns of the two pointed shapes as one: d places behind the point and t bytes behind those, so that each fact is shown once over both.
use Prim.Native.Nat.{ℕ, ◌+◌, ◌-◌, ◌≤◌, ◌<◌}
use mathlib.Core.Path.{◌≡◌, refl, sym, ap, ◌∙◌}
use mathlib.Core.Bool.{Bool, true, false, false≢true}
use native.Mathlib.Omega.{arith}
use lib.Dec.{eqb, ltb}
use borrow.Author.Tests.{eq-eqb, ne_eqb, eqb-true, eqb-false, lt-ltb, le-ltb, ltb-true, ltb-false}
use Rattle.words.specs.Tests.{pick, within_of}
use Rattle.decimal.specs.declared.Shape.{Shape}
use Rattle.decimal.specs.declared.Shape.TheVariants.{Whole, Fixed, Expo}
use Rattle.bad_byte.specs.Columns.{column_of, point_column, exponent_column, pointed?, front?, early?, fits_of}
use Rattle.bad_byte.specs.declared.Column.{Column}
use Rattle.bad_byte.specs.declared.Column.TheVariants.{Front, Unit as Last, Point, Place, Letter, Sign}

-- each column of a whole number takes a digit, and the number may begin there
pub whole_column_lem : (left c : ℕ) → (early? (column_of Whole left) ≡ true) × (fits_of (column_of Whole left) c ≡ within_of 48 c 57)
whole_column_lem left c = go (eqb left 0)
  where
    go : (b : Bool) → (early? (pick b Last Front) ≡ true) × (fits_of (pick b Last Front) c ≡ within_of 48 c 57)
    go true = (refl, refl)
    go false = (refl, refl)

-- the columns of a number with d places
point_front : (d left : ℕ) → d < left → point_column d left ≡ Front
point_front d left h = rw (le-ltb left d (omega arith), ne_eqb left d (omega arith))

point_dot : (d left : ℕ) → left ≡ d → point_column d left ≡ Point
point_dot d left h = rw (le-ltb left d (omega arith), eq-eqb left d h)

point_place : (d left : ℕ) → left < d → point_column d left ≡ Place
point_place d left h = rw (lt-ltb left d h)

-- no number begins in an exponent
exponent_late : (left : ℕ) → early? (exponent_column left) ≡ false
exponent_late left = go (eqb left 3) (eqb left 2)
  where
    go : (a b : Bool) → early? (pick a Letter (pick b Sign Place)) ≡ false
    go true b = refl
    go false true = refl
    go false false = refl

-- behind the exponent's four columns an E field is laid as an F field
expo_early : (d left : ℕ) → 4 ≤ left → column_of (Expo d) left ≡ point_column d (left - 4)
expo_early d left h = rw (le-ltb left 4 h)

expo_late : (d left : ℕ) → left < 4 → column_of (Expo d) left ≡ exponent_column left
expo_late d left h = rw (lt-ltb left 4 h)

-- the columns of a shape with d places and t bytes behind them
pub record Laid (s : Shape) (d t : ℕ) : Type 0 where
  pub gap : pointed? s ≡ true
  pub front : (left : ℕ) → d + t < left → column_of s left ≡ Front
  pub dot : (left : ℕ) → left ≡ d + t → column_of s left ≡ Point
  pub place : (left : ℕ) → t ≤ left → left < d + t → column_of s left ≡ Place
  pub late : (left : ℕ) → left < d + t → early? (column_of s left) ≡ false

pub laid_fixed : (d : ℕ) → Laid (Fixed d) d 0
laid_fixed d =
    record {
      gap = refl;
      front = λ left h. point_front d left (omega arith);
      dot = λ left h. point_dot d left (omega arith);
      place = λ left l h. point_place d left (omega arith);
      late = λ left h. ap early? (point_place d left (omega arith));
    }

pub laid_expo : (d : ℕ) → Laid (Expo d) d 4
laid_expo d =
    record {
      gap = refl;
      front = λ left h. expo_early d left (omega arith) ∙ point_front d (left - 4) (omega arith);
      dot = λ left h. expo_early d left (omega arith) ∙ point_dot d (left - 4) (omega arith);
      place = λ left l h. expo_early d left l ∙ point_place d (left - 4) (omega arith);
      late = λ left h. go left h (ltb left 4) refl;
    }
  where
    go : (left : ℕ) → left < d + 4 → (b : Bool) → ltb left 4 ≡ b → early? (column_of (Expo d) left) ≡ false
    go left h true e = ap early? (expo_late d left (ltb-true left 4 e)) ∙ exponent_late left
    go left h false e =
        let l = ltb-false left 4 e in
        ap early? (expo_early d left l ∙ point_place d (left - 4) (omega arith))

-- so a number begins ahead of the places, and its sign ahead of the point
pub begins : {s : Shape} {d t : ℕ} → Laid s d t → (left : ℕ) → early? (column_of s left) ≡ true → d + t ≤ left
begins {s} {d} {t} c left e = go (ltb left (d + t)) refl
  where
    go : (b : Bool) → ltb left (d + t) ≡ b → d + t ≤ left
    go true q = absurd (false≢true (sym (c.late left (ltb-true left (d + t) q)) ∙ e))
    go false q = ltb-false left (d + t) q

front_early : (k : Column) → front? k ≡ true → early? k ≡ true
front_early Front h = refl
front_early Last h = refl
front_early Point h = refl
front_early Place h = h
front_early Letter h = h
front_early Sign h = h

pub ahead : {s : Shape} {d t : ℕ} → Laid s d t → (left : ℕ) → front? (column_of s left) ≡ true → d + t < left
ahead {s} {d} {t} c left e = go (eqb left (d + t)) refl
  where
    go : (b : Bool) → eqb left (d + t) ≡ b → d + t < left
    go true q = absurd (false≢true (sym (ap front? (c.dot left (eqb-true left (d + t) q))) ∙ e))
    go false q = omega (arith, begins c left (front_early (column_of s left) e), eqb-false left (d + t) q)
