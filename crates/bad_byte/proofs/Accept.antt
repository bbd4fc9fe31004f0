-- What the automaton of the columns accepts, as a type, and that the place it finds divides the bytes: up to it they can be completed, since each column
-- has a byte that fits, and with it they cannot.
use Prim.Native.Nat.{ℕ, zero, suc, ◌≤◌, ◌<◌}
use mathlib.Core.Path.{◌≡◌, refl, sym, ap, ◌∙◌, subst}
use mathlib.Core.List.{List, [], ◌∷◌, ◌++◌}
use mathlib.Core.Bool.{Bool, true, false, false≢true}
use native.Mathlib.Omega.{arith}
use lib.ListN.{length, take, replicate, length-replicate}
use Rattle.words.specs.Tests.{pick}
use Rattle.decimal.specs.declared.Shape.{Shape}
use Rattle.bad_byte.specs.Columns.{column_of, pointed?, next_of, wrong?, bad_from}
use Rattle.bad_byte.specs.declared.Column.{Column}
use Rattle.bad_byte.specs.declared.Column.TheVariants.{Front, Unit as Last, Point, Place, Letter, Sign}
use Rattle.bad_byte.specs.declared.Stage.{Stage}
use Rattle.bad_byte.specs.declared.Stage.TheVariants.{Blanks, Behind, Inked, Wrong}

-- the stage behind a byte that so many follow
abbrev pub step_of : Shape → Stage → ℕ → ℕ → Stage
step_of s st left c = next_of (pointed? s) st (column_of s left) c

-- no byte is bad, of what stood before
abbrev pub Accept : Shape → Stage → List ℕ → Type 0
Accept s st [] = Unit {0}
Accept s st (c ∷ cs) = (wrong? (step_of s st (length cs) c) ≡ false) × Accept s (step_of s st (length cs) c) cs

-- the same behind a byte that led to a stage: it is not wrong
abbrev pub Goes : Shape → Stage → List ℕ → Type 0
Goes s st cs = (wrong? st ≡ false) × Accept s st cs

-- one byte more at the front
pub go_on : (s : Shape) (st : Stage) {t : Stage} (c : ℕ) (cs : List ℕ) → step_of s st (length cs) c ≡ t → wrong? t ≡ false → Accept s t cs
    → Accept s st (c ∷ cs)
go_on s st c cs e w a = subst (λ (t : Stage). Goes s t cs) (sym e) (w, a)

-- a byte that fits the column
abbrev fitting : Column → ℕ
fitting Front = 48
fitting Last = 48
fitting Point = 46
fitting Place = 48
fitting Letter = 69
fitting Sign = 43

-- behind a sign, where it is no blank, and behind more
fitting_behind : (p : Bool) (k : Column) → next_of p Behind k (fitting k) ≡ Inked
fitting_behind true Front = refl
fitting_behind true Last = refl
fitting_behind true Point = refl
fitting_behind true Place = refl
fitting_behind true Letter = refl
fitting_behind true Sign = refl
fitting_behind false Front = refl
fitting_behind false Last = refl
fitting_behind false Point = refl
fitting_behind false Place = refl
fitting_behind false Letter = refl
fitting_behind false Sign = refl

fitting_inked : (p : Bool) (k : Column) → next_of p Inked k (fitting k) ≡ Inked
fitting_inked p Front = refl
fitting_inked p Last = refl
fitting_inked p Point = refl
fitting_inked p Place = refl
fitting_inked p Letter = refl
fitting_inked p Sign = refl

-- m bytes that fit their columns
abbrev fill : Shape → ℕ → List ℕ
fill s zero = []
fill s (suc m) = fitting (column_of s m) ∷ fill s m

length_fill : (s : Shape) (m : ℕ) → length (fill s m) ≡ m
length_fill s zero = refl
length_fill s (suc m) = ap suc (length_fill s m)

-- each stage of a fitting byte, at the column by its number or by the bytes that follow
fill_step : (s : Shape) (st : Stage) (m : ℕ) → ((k : Column) → next_of (pointed? s) st k (fitting k) ≡ Inked)
    → step_of s st (length (fill s m)) (fitting (column_of s m)) ≡ Inked
fill_step s st m h = rw (length_fill s m) (h (column_of s m))

fill_inked : (s : Shape) (m : ℕ) → Accept s Inked (fill s m)
fill_inked s zero = tt
fill_inked s (suc m) = go_on s Inked (fitting (column_of s m)) (fill s m) (fill_step s Inked m (fitting_inked (pointed? s))) refl (fill_inked s m)

fill_behind : (s : Shape) (m : ℕ) → Accept s Behind (fill s m)
fill_behind s zero = tt
fill_behind s (suc m) = go_on s Behind (fitting (column_of s m)) (fill s m) (fill_step s Behind m (fitting_behind (pointed? s))) refl (fill_inked s m)

-- blanks alone
pub all_blank : (s : Shape) (m : ℕ) → Accept s Blanks (replicate m 32)
all_blank s zero = tt
all_blank s (suc m) = (refl, all_blank s m)

-- whatever stood before, if it was not wrong, some m bytes complete it
pub completed : (s : Shape) (st : Stage) (m : ℕ) → wrong? st ≡ false → (more : List ℕ) × (length more ≡ m) × Accept s st more
completed s Blanks m w = (replicate m 32, length-replicate m 32, all_blank s m)
completed s Behind m w = (fill s m, length_fill s m, fill_behind s m)
completed s Inked m w = (fill s m, length_fill s m, fill_inked s m)
completed s Wrong m w = absurd (false≢true (sym w))

-- the bytes up to i begin some that are accepted, and those up to i and its own none; where there is no byte i all are accepted
pub record Divides (s : Shape) (st : Stage) (bs : List ℕ) (i : ℕ) : Type 0 where
  pub within : i ≤ length bs
  pub before : (more : List ℕ) × (length (take i bs ++ more) ≡ length bs) × Accept s st (take i bs ++ more)
  pub none : i < length bs → (more : List ℕ) → length (take (suc i) bs ++ more) ≡ length bs → Accept s st (take (suc i) bs ++ more) → ⊥
  pub all : i ≡ length bs → Accept s st bs

-- at the first byte, and behind it
divides_here : (s : Shape) (st : Stage) (c : ℕ) (cs : List ℕ) → wrong? st ≡ false → wrong? (step_of s st (length cs) c) ≡ true → Divides s st (c ∷ cs) 0
divides_here s st c cs w e =
    record {
      within = omega arith;
      before = completed s st (suc (length cs)) w;
      none = λ h more l a. bad more (omega arith) a.0;
      all = λ h. absurd (omega arith);
    }
  where
    bad : (more : List ℕ) → length more ≡ length cs → wrong? (step_of s st (length more) c) ≡ false → ⊥
    bad more l f = false≢true (sym f ∙ ap (λ (n : ℕ). wrong? (step_of s st n c)) l ∙ e)

divides_later : (s : Shape) (st : Stage) (c : ℕ) (cs : List ℕ) (i : ℕ) → wrong? (step_of s st (length cs) c) ≡ false
    → Divides s (step_of s st (length cs) c) cs i → Divides s st (c ∷ cs) (suc i)
divides_later s st c cs i w d =
    record {
      within = omega (arith, d.within);
      before = (d.before.0, ap suc d.before.1, at (take i cs ++ d.before.0) d.before.1 d.before.2);
      none = λ h more l a. d.none (omega arith) more (omega arith) (of (take (suc i) cs ++ more) (omega arith) a);
      all = λ h. (w, d.all (omega arith));
    }
  where
    at : (xs : List ℕ) → length xs ≡ length cs → Accept s (step_of s st (length cs) c) xs → Accept s st (c ∷ xs)
    at xs l a = go_on s st c xs (ap (λ (n : ℕ). step_of s st n c) l) w a

    of : (xs : List ℕ) → length xs ≡ length cs → Accept s st (c ∷ xs) → Accept s (step_of s st (length cs) c) xs
    of xs l a = subst (λ (n : ℕ). Accept s (step_of s st n c) xs) l a.1

-- the place that is found divides
pub divides : (s : Shape) (st : Stage) (bs : List ℕ) → wrong? st ≡ false → Divides s st bs (bad_from s st bs)
unfolding bad_from
divides s st [] w = record { within = omega arith; before = ([], refl, tt); none = λ h. absurd (omega arith); all = λ h. tt }
divides s st (c ∷ cs) w = go (wrong? (step_of s st (length cs) c)) refl (divides s (step_of s st (length cs) c) cs)
  where
    go : (b : Bool) → wrong? (step_of s st (length cs) c) ≡ b
        → (wrong? (step_of s st (length cs) c) ≡ false → Divides s (step_of s st (length cs) c) cs (bad_from s (step_of s st (length cs) c) cs))
        → Divides s st (c ∷ cs) (pick b 0 (suc (bad_from s (step_of s st (length cs) c) cs)))
    go true e r = divides_here s st c cs w e
    go false e r = divides_later s st c cs (bad_from s (step_of s st (length cs) c) cs) e (r e)
