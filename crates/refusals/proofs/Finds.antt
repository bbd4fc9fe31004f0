-- What a list of tests finds first is the first rule broken: one test beside one rule, and lists one after the other.
use Prim.Native.Nat.{ℕ, ◌+◌}
use mathlib.Core.Path.{◌≡◌, refl, sym, ap, ◌∙◌, subst}
use mathlib.Core.Logic.{◌↔◌, inl, inr}
use mathlib.Core.List.{List, [], ◌∷◌, ◌++◌}
use mathlib.Core.Bool.{Bool, true, false}
use native.Mathlib.Omega.{arith}
use Rattle.std.specs.Prelude.{Ok, Err}
use Rattle.std.specs.List.{AllByRecursion}
use Rattle.words.specs.Answer.{refusal_at}
use Rattle.words.specs.Tests.{pick}
use Rattle.words.specs.Words.{place_of}
use Rattle.words.specs.declared.Refusal.{Refusal}
use Rattle.verdicts.specs.Tests.{Test, first_fault, and_then, each, Verdict}
use Rattle.decimal.specs.Forms.{width_of, shape_of}
use Rattle.decimal.specs.declared.Form.{Form}
use Rattle.bad_byte.specs.BadByte.{BadAt, PointsAt, bad, empty}
use Rattle.bad_byte.proofs.Named.{bad_one, bad_never}
use Rattle.fields.specs.Field.{field_bytes}
use Rattle.refusals.specs.Refusals.{Mark, at_byte, in_field, Points, Rule, AllHold, FirstWrong}

-- ---- a mark points at one place

points_at_once : (k : Form) (bs : List ℕ) (i j : ℕ) → PointsAt k bs i → PointsAt k bs j → i ≡ j
points_at_once k bs i j (bad x) (bad y) = bad_one (shape_of k) (width_of k) bs i j x y
points_at_once k bs i j (bad x) (empty w e) = absurd (bad_never (shape_of k) bs i w.1 (subst (λ (n : ℕ). BadAt (shape_of k) n bs i) (sym w.0) x))
points_at_once k bs i j (empty w e) (bad y) = absurd (bad_never (shape_of k) bs j w.1 (subst (λ (n : ℕ). BadAt (shape_of k) n bs j) (sym w.0) y))
points_at_once k bs i j (empty w e) (empty v f) = omega (arith, e, f)

points_once : (x : Mark) (q q' : ℕ) → Points x q → Points x q' → q ≡ q'
points_once (at_byte b) q q' e f = e ∙ sym f
points_once (in_field r b k) q q' (i, e, x) (j, f, y) =
    e ∙ ap (λ (n : ℕ). place_of b + n) (points_at_once k (field_bytes r (place_of b) k) i j x y) ∙ sym f

-- ---- a list of rules leaves one first thing wrong

-- not both: all hold, and one is broken
hold_wrong : (xs : List Rule) (m q : ℕ) → AllHold xs → FirstWrong xs m q → ⊥
hold_wrong [] m q h w = w
hold_wrong (x ∷ xs) m q h (inl w) = w.0 h.0
hold_wrong (x ∷ xs) m q h (inr w) = hold_wrong xs m q h.1 w.1

-- and only one is the first
wrong_once : (xs : List Rule) (m q m' q' : ℕ) → FirstWrong xs m q → FirstWrong xs m' q' → (m ≡ m') × (q ≡ q')
wrong_once [] m q m' q' w v = absurd w
wrong_once (x ∷ xs) m q m' q' (inl w) (inl v) = (w.1 ∙ sym v.1, points_once x.mark q q' w.2 v.2)
wrong_once (x ∷ xs) m q m' q' (inl w) (inr v) = absurd (w.0 v.0)
wrong_once (x ∷ xs) m q m' q' (inr w) (inl v) = absurd (v.0 w.0)
wrong_once (x ∷ xs) m q m' q' (inr w) (inr v) = wrong_once xs m q m' q' w.1 v.1

pub hold_join : (xs ys : List Rule) → AllHold xs → AllHold ys → AllHold (xs ++ ys)
hold_join [] ys h k = k
hold_join (x ∷ xs) ys h k = (h.0, hold_join xs ys h.1 k)

wrong_left : (xs ys : List Rule) (m q : ℕ) → FirstWrong xs m q → FirstWrong (xs ++ ys) m q
wrong_left [] ys m q w = absurd w
wrong_left (x ∷ xs) ys m q (inl w) = inl w
wrong_left (x ∷ xs) ys m q (inr w) = inr (w.0, wrong_left xs ys m q w.1)

wrong_right : (xs ys : List Rule) (m q : ℕ) → AllHold xs → FirstWrong ys m q → FirstWrong (xs ++ ys) m q
wrong_right [] ys m q h w = w
wrong_right (x ∷ xs) ys m q h w = inr (h.0, wrong_right xs ys m q h.1 w)

-- ---- a verdict beside rules

-- the verdict is what is first wrong with the rules
pub record Finds (v : Verdict) (xs : List Rule) : Type 0 where
  pub fine : v ≡ Ok tt → AllHold xs
  pub fault : (y : Refusal) → v ≡ Err y → FirstWrong xs y.number y.place

fine≢fault : (y : Refusal) → ◌≡◌ {A = Verdict} (Ok tt) (Err y) → ⊥
fine≢fault y e = cc

-- and the other way
pub finds_fine : (v : Verdict) (xs : List Rule) → Finds v xs → AllHold xs → v ≡ Ok tt
finds_fine (Ok u) xs f h = refl
finds_fine (Err y) xs f h = absurd (hold_wrong xs y.number y.place h (f.fault y refl))

pub finds_fault : (v : Verdict) (xs : List Rule) → Finds v xs → (m q : ℕ) → FirstWrong xs m q
    → (y : Refusal) × (v ≡ Err y) × (y.number ≡ m) × (y.place ≡ q)
finds_fault (Ok u) xs f m q w = absurd (hold_wrong xs m q (f.fine refl) w)
finds_fault (Err y) xs f m q w = let e = wrong_once xs y.number y.place m q (f.fault y refl) w in (y, refl, e.0, e.1)

-- ---- lists one after the other

pub finds_none : Finds (Ok tt) []
finds_none = record { fine = λ e. tt; fault = λ y e. absurd (fine≢fault y e) }

pub finds_then : (v u : Verdict) (xs ys : List Rule) → Finds v xs → (v ≡ Ok tt → Finds u ys) → Finds (and_then v u) (xs ++ ys)
finds_then (Ok v) u xs ys f g =
    let h = f.fine refl in
    record { fine = λ e. hold_join xs ys h ((g refl).fine e); fault = λ y e. wrong_right xs ys y.number y.place h ((g refl).fault y e) }
finds_then (Err x) u xs ys f g =
    record { fine = λ e. absurd (fine≢fault x (sym e)); fault = λ y e. wrong_left xs ys y.number y.place (f.fault y e) }

-- the first fault of tests one after the other
pub first_then : (ts us : List Test) → first_fault (ts ++ us) ≡ and_then (first_fault ts) (first_fault us)
unfolding first_fault
first_then [] us = refl
first_then (t ∷ ts) us = go t.holds (first_then ts us)
  where
    go : (b : Bool) → first_fault (ts ++ us) ≡ and_then (first_fault ts) (first_fault us)
        → pick b (first_fault (ts ++ us)) (Err (refusal_at t.number t.place))
        ≡ and_then (pick b (first_fault ts) (Err (refusal_at t.number t.place))) (first_fault us)
    go true e = e
    go false e = refl

-- one test beside one rule, and what follows where it holds
pub finds_test : (b : Bool) (n at : ℕ) (v : Verdict) (x : Rule) (xs : List Rule) → (b ≡ true → x.Holds)
    → (b ≡ false → (x.Holds → ⊥) × (n ≡ x.number) × Points x.mark at) → (b ≡ true → Finds v xs)
    → Finds (pick b v (Err (refusal_at n at))) (x ∷ xs)
finds_test true n at v x xs h w f =
    record { fine = λ e. (h refl, (f refl).fine e); fault = λ y e. inr (h refl, (f refl).fault y e) }
finds_test false n at v x xs h w f =
    let b = w refl in
    record {
      fine = λ e. absurd (fine≢fault (refusal_at n at) (sym e));
      fault = λ y e.
          let s : refusal_at n at ≡ y = cc in
          inl (b.0, sym (ap (λ (r : Refusal). r.number) s) ∙ b.1, subst (Points x.mark) (ap (λ (r : Refusal). r.place) s) b.2);
    }

-- the tests of each of several things, one thing after the other, beside the rules of each
abbrev pub rules_of : {A : Type 0} → (A → List Rule) → List A → List Rule
rules_of g [] = []
rules_of g (x ∷ xs) = g x ++ rules_of g xs

pub finds_each : {A : Type 0} (g : A → List Test) (h : A → List Rule) (xs : List A) → AllByRecursion (λ (x : A). Finds (first_fault (g x)) (h x)) xs
    → Finds (first_fault (each g xs)) (rules_of h xs)
unfolding first_fault
finds_each g h [] f = finds_none
finds_each g h (x ∷ xs) f =
    subst (λ (v : Verdict). Finds v (h x ++ rules_of h xs)) (sym (first_then (g x) (each g xs)))
    (finds_then (first_fault (g x)) (first_fault (each g xs)) (h x) (rules_of h xs) f.0 (λ e. finds_each g h xs f.1))

-- ---- rules that hold alike, one by one, with the same refusals

abbrev pub Alike : List Rule → List Rule → Type 0
Alike [] [] = Unit {0}
Alike [] (y ∷ ys) = ⊥
Alike (x ∷ xs) [] = ⊥
Alike (x ∷ xs) (y ∷ ys) = ((x.Holds ↔ y.Holds) × (x.number ≡ y.number) × (x.mark ≡ y.mark)) × Alike xs ys

pub alike_self : (xs : List Rule) → Alike xs xs
alike_self [] = tt
alike_self (x ∷ xs) = (((λ h. h, λ h. h), refl, refl), alike_self xs)

-- behind rules in common
pub alike_behind : (zs xs ys : List Rule) → Alike xs ys → Alike (zs ++ xs) (zs ++ ys)
alike_behind [] xs ys a = a
alike_behind (z ∷ zs) xs ys a = (((λ h. h, λ h. h), refl, refl), alike_behind zs xs ys a)

alike_hold : (xs ys : List Rule) → Alike xs ys → AllHold xs → AllHold ys
alike_hold [] [] a h = tt
alike_hold [] (y ∷ ys) a h = absurd a
alike_hold (x ∷ xs) [] a h = absurd a
alike_hold (x ∷ xs) (y ∷ ys) a h = (a.0.0.0 h.0, alike_hold xs ys a.1 h.1)

alike_wrong : (xs ys : List Rule) (m q : ℕ) → Alike xs ys → FirstWrong xs m q → FirstWrong ys m q
alike_wrong [] [] m q a w = w
alike_wrong [] (y ∷ ys) m q a w = absurd a
alike_wrong (x ∷ xs) [] m q a w = absurd a
alike_wrong (x ∷ xs) (y ∷ ys) m q a (inl w) = inl (λ h. w.0 (a.0.0.1 h), w.1 ∙ a.0.1, subst (λ (z : Mark). Points z q) a.0.2 w.2)
alike_wrong (x ∷ xs) (y ∷ ys) m q a (inr w) = inr (a.0.0.0 w.0, alike_wrong xs ys m q a.1 w.1)

pub finds_alike : {v : Verdict} (xs ys : List Rule) → Alike xs ys → Finds v xs → Finds v ys
finds_alike xs ys a f = record { fine = λ e. alike_hold xs ys a (f.fine e); fault = λ y e. alike_wrong xs ys y.number y.place a (f.fault y e) }
