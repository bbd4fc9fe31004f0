-- Lists of tests, one after the other: the first fault of two lists is the first list's, or the second's where the first has none; so of a table's rows,
-- one row after the other.
use Prim.Native.Nat.{ℕ, ◌+◌, ◌≤◌, ◌<◌}
use mathlib.Core.Path.{◌≡◌, refl, ap, ◌∙◌}
use mathlib.Core.List.{List, [], ◌∷◌, ◌++◌}
use mathlib.Core.Bool.{Bool, true, false}
use native.Mathlib.Omega.{arith}
use native.Mathlib.Numerals.{add-one}
use lib.ListN.{length, get_or, take, drop_of_length-le}
use lib.Seq.{slice, slice-cons, length-take-le}
use Rattle.std.specs.Prelude.{Ok, Err}
use Rattle.words.specs.Tests.{pick}
use Rattle.words.specs.Answer.{refusal_at}
use Rattle.words.specs.declared.Refusal.{Refusal}
use Rattle.verdicts.specs.Tests.{Test, Verdict, first_fault, and_then, named_by, each}

after_test : (b : Bool) (v w : Verdict) (x : Refusal) → pick b (and_then v w) (Err x) ≡ and_then (pick b v (Err x)) w
after_test true v w x = refl
after_test false v w x = refl

pub fault_append : (ts us : List Test) → first_fault (ts ++ us) ≡ and_then (first_fault ts) (first_fault us)
unfolding first_fault
fault_append [] us = refl
fault_append (t ∷ ts) us =
    ap (λ (v : Verdict). pick t.holds v (Err (refusal_at t.number t.place))) (fault_append ts us)
    ∙ after_test t.holds (first_fault ts) (first_fault us) (refusal_at t.number t.place)

-- the first list's fault is that of both, and where it has none the second list's is
module _ (ts us : List Test) where
  pub found : {x : Refusal} → first_fault ts ≡ Err x → first_fault (ts ++ us) ≡ Err x
  found q = rw (fault_append ts us, q)

  pub passed : first_fault ts ≡ Ok tt → first_fault (ts ++ us) ≡ first_fault us
  passed q = rw (fault_append ts us, q)

-- of one test, and others behind it
module _ (t : Test) (us : List Test) where
  pub head_found : {x : Refusal} → first_fault (t ∷ []) ≡ Err x → first_fault (t ∷ us) ≡ Err x
  head_found q = found (t ∷ []) us q

  pub head_passed : first_fault (t ∷ []) ≡ Ok tt → first_fault (t ∷ us) ≡ first_fault us
  head_passed q = passed (t ∷ []) us q

pub ruleset heads = (head_found, head_passed)

-- a fault is not fine
pub not_fine : {v : Verdict} {x : Refusal} → v ≡ Err x → v ≡ Ok tt → ⊥
not_fine q e = let z : ◌≡◌ {A = ℕ} 0 1 = cc in omega arith

-- what a record names, or its fault
module _ {A : Type 0} (a : A) {v : Verdict} where
  pub named_fault : {x : Refusal} → v ≡ Err x → Err x ≡ named_by v a
  named_fault q = rw q

  pub named_fine : v ≡ Ok tt → Ok a ≡ named_by v a
  named_fine q = rw q

-- and what was found, by what is named
module _ {A : Type 0} (a : A) where
  pub fault_found : (v : Verdict) {x : Refusal} → named_by v a ≡ Err x → v ≡ Err x
  fault_found (Ok u) q = absurd (let z : ◌≡◌ {A = ℕ} 0 1 = cc in omega arith)
  fault_found (Err y) {x} q = let e : y ≡ x = cc in ap Err e

  pub fine_found : (v : Verdict) {b : A} → named_by v a ≡ Ok b → (v ≡ Ok tt) × (b ≡ a)
  fine_found (Ok u) {b} q = (refl, cc)
  fine_found (Err y) q = absurd (let z : ◌≡◌ {A = ℕ} 0 1 = cc in omega arith)

-- the rows of a table from i on, to before another
module _ {A : Type 0} (g : A → List Test) (xs : List A) (d : A) (i to : ℕ) where
  pub rows_end : to ≤ length xs → to ≤ i → first_fault (each g (slice i to xs)) ≡ Ok tt
  unfolding first_fault
  rows_end k h =
      let l : length (take to xs) ≤ i = omega (arith, length-take-le to xs k) in
      rw (drop_of_length-le (take to xs) l)

  module _ (h : i < to) (k : to ≤ length xs) where
    row_split : each g (slice i to xs) ≡ g (get_or xs i d) ++ each g (slice (i + 1) to xs)
    row_split = rw (add-one, slice-cons i to xs d h k)

    pub row_found : {x : Refusal} → first_fault (g (get_or xs i d)) ≡ Err x → first_fault (each g (slice i to xs)) ≡ Err x
    row_found q = ap first_fault row_split ∙ found (g (get_or xs i d)) (each g (slice (i + 1) to xs)) q

    pub row_passed : first_fault (g (get_or xs i d)) ≡ Ok tt → first_fault (each g (slice i to xs)) ≡ first_fault (each g (slice (i + 1) to xs))
    row_passed q = ap first_fault row_split ∙ passed (g (get_or xs i d)) (each g (slice (i + 1) to xs)) q
