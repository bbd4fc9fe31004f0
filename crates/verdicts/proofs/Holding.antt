-- That no test of a list fails is that each of them holds, the first first: for lists one after the other, for the rows of a table, and for a number field,
-- whose number then lies in its range.
use Prim.Native.Nat.{ℕ, zero, suc, ◌+◌, ◌-◌, ◌≤◌, ◌<◌}
use mathlib.Core.Path.{◌≡◌, refl, ap, ◌∙◌, subst}
use mathlib.Core.List.{List, [], ◌∷◌, ◌++◌}
use mathlib.Core.Bool.{Bool, true, false, false≢true}
use native.Mathlib.Omega.{arith}
use lib.IntN.{pos, negsuc}
use lib.ListN.{length, get_or, take}
use lib.Seq.{slice, length-slice, get_or-drop, get_or-take}
use Rattle.std.specs.Prelude.{Ok, Err}
use Rattle.words.specs.Tests.{pick, both_of}
use Rattle.words.specs.Answer.{refusal_at}
use Rattle.words.specs.declared.Refusal.{Refusal}
use Rattle.words.specs.Words.{place_of}
use Rattle.decimal.specs.declared.Form.TheVariants.{I4}
use Rattle.words.proofs.Laws.{within_true, both_l, both_r, both_true}
use Rattle.fields.specs.declared.Field.{Field}
use Rattle.fields.specs.declared.Field.TheVariants.{Value, Blank, Refused}
use Rattle.verdicts.specs.Tests.{Test, Verdict, first_fault, all_hold, each, number_tests, count_tests, number_of}
use Rattle.verdicts.specs.Numbers.{Number, number, at, last_of, number_at, row_tests, numbers_tests}

-- each test holds
abbrev pub Holds : List Test → Type 0
Holds [] = Unit {0}
Holds (t ∷ ts) = (t.holds ≡ true) × Holds ts

test_fine : (b : Bool) (v : Verdict) (x : Refusal) → pick b v (Err x) ≡ Ok tt → (b ≡ true) × (v ≡ Ok tt)
test_fine true v x e = (refl, e)
test_fine false v x e = absurd (let z : ◌≡◌ {A = ℕ} 0 1 = cc in omega arith)

pub fine_holds : (ts : List Test) → first_fault ts ≡ Ok tt → Holds ts
unfolding first_fault
fine_holds [] e = tt
fine_holds (t ∷ ts) e =
    let h = test_fine t.holds (first_fault ts) (refusal_at t.number t.place) e in
    (h.0, fine_holds ts h.1)

pub holds_fine : (ts : List Test) → Holds ts → first_fault ts ≡ Ok tt
unfolding first_fault
holds_fine [] h = refl
holds_fine (t ∷ ts) h = ap (λ (b : Bool). pick b (first_fault ts) (Err (refusal_at t.number t.place))) h.0 ∙ holds_fine ts h.1

-- the same as one test
all_holds : (ts : List Test) → all_hold ts ≡ true → Holds ts
unfolding all_hold
all_holds [] e = tt
all_holds (t ∷ ts) e = (both_l t.holds (all_hold ts) e, all_holds ts (both_r t.holds (all_hold ts) e))

pub all_fine : (ts : List Test) → all_hold ts ≡ true → first_fault ts ≡ Ok tt
all_fine ts e = holds_fine ts (all_holds ts e)

-- three tests
pub all_three : (a b c : Test) → both_of a.holds (both_of b.holds c.holds) ≡ all_hold (a ∷ b ∷ c ∷ [])
unfolding all_hold
all_three a b c = ap (λ (x : Bool). both_of a.holds (both_of b.holds x)) (both_true c.holds)

-- ---- lists one after the other

pub holds_split : (ts us : List Test) → Holds (ts ++ us) → Holds ts × Holds us
holds_split [] us h = (tt, h)
holds_split (t ∷ ts) us h = let s = holds_split ts us h.1 in ((h.0, s.0), s.1)

pub holds_join : (ts us : List Test) → Holds ts → Holds us → Holds (ts ++ us)
holds_join [] us h k = k
holds_join (t ∷ ts) us h k = (h.0, holds_join ts us h.1 k)

module _ {A : Type 0} (g : A → List Test) (d : A) where
  pub each_holds : (xs : List A) → Holds (each g xs) → (i : ℕ) → i < length xs → Holds (g (get_or xs i d))
  each_holds [] h i l = absurd (omega arith)
  each_holds (x ∷ xs) h zero l = (holds_split (g x) (each g xs) h).0
  each_holds (x ∷ xs) h (suc i) l = each_holds xs (holds_split (g x) (each g xs) h).1 i (omega arith)

  pub holds_each : (xs : List A) → ((i : ℕ) → i < length xs → Holds (g (get_or xs i d))) → Holds (each g xs)
  holds_each [] h = tt
  holds_each (x ∷ xs) h = holds_join (g x) (each g xs) (h zero (omega arith)) (holds_each xs (λ i l. h (suc i) (omega arith)))

  -- the rows of a table from one to before another
  module _ (xs : List A) (from to : ℕ) (k : to ≤ length xs) where
    slice_at : (i : ℕ) → from ≤ i → i < to → get_or (slice from to xs) (i - from) d ≡ get_or xs i d
    slice_at i l h =
        let e : from + (i - from) ≡ i = omega arith in
        get_or-drop from (take to xs) (i - from) d ∙ ap (λ (n : ℕ). get_or (take to xs) n d) e ∙ get_or-take to xs i d h

    pub rows_hold : Holds (each g (slice from to xs)) → (i : ℕ) → from ≤ i → i < to → Holds (g (get_or xs i d))
    rows_hold h i l m =
        subst (λ (x : A). Holds (g x)) (slice_at i l m)
        (each_holds (slice from to xs) h (i - from) (let n = length-slice from to xs k in omega arith))

-- ---- number fields

pub number_holds : (f : Field) (at last lo hi : ℕ) → Holds (number_tests f at last lo hi) → (lo ≤ number_of f) × (number_of f ≤ hi)
number_holds (Value (pos n) e) at last lo hi h = within_true lo n hi h.1.0
number_holds (Value (negsuc n) e) at last lo hi h = absurd (false≢true h.1.0)
number_holds Blank at last lo hi h = absurd (false≢true h.0)
number_holds (Refused x) at last lo hi h = absurd (false≢true h.0)

pub count_holds : (f : Field) (at lo hi : ℕ) → Holds (count_tests f at lo hi) → (lo ≤ number_of f) × (number_of f ≤ hi)
count_holds (Value (pos n) e) at lo hi h = within_true lo n hi h.1.0
count_holds (Value (negsuc n) e) at lo hi h = absurd (false≢true h.1.0)
count_holds Blank at lo hi h = within_true lo 0 hi h.1.0
count_holds (Refused x) at lo hi h = absurd (false≢true h.0)

-- the number of row i of a table whose rows have no fault lies in its range
pub row_holds : (r : List ℕ) (xs : List Number) → Holds (numbers_tests r xs) → (i : ℕ) → i < length xs
    → ((get_or xs i (number 0 I4 0 0)).least ≤ number_at r (get_or xs i (number 0 I4 0 0)).byte (get_or xs i (number 0 I4 0 0)).form)
    × (number_at r (get_or xs i (number 0 I4 0 0)).byte (get_or xs i (number 0 I4 0 0)).form ≤ (get_or xs i (number 0 I4 0 0)).most)
unfolding numbers_tests
row_holds r xs h i l =
    let x = get_or xs i (number 0 I4 0 0) in
    number_holds (at r x.byte x.form) (place_of x.byte) (last_of x.byte x.form) x.least x.most
    (each_holds (row_tests r) (number 0 I4 0 0) xs h i l)
