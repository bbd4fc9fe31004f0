-- A rule of a table holds at each of its places: one test, computed over the whole table, entry after entry.
use Prim.Native.Nat.{ℕ, zero, suc, ◌+◌, ◌-◌, ◌*◌, ◌≤◌, ◌<◌}
use mathlib.Core.Path.{◌≡◌, refl, sym, ap, ◌∙◌, subst}
use mathlib.Core.List.{List, [], ◌∷◌}
use mathlib.Core.Bool.{Bool, true, false, false≢true}
use native.Mathlib.Omega.{arith}
use native.Mathlib.Nat.{add-zero, zero-add}
use lib.Dec.{eqb, leb, ltb}
use lib.ListN.{length, get_or}
use borrow.Author.Tests.{eqb-true, leb-true, ltb-true}
use Rattle.words.specs.Tests.{both_of}
use Rattle.decimal.specs.declared.Form.TheVariants.{I4, I6, I8}
use Rattle.plan.specs.Tables.{rows}
use Rattle.std.specs.Prelude.{Option, Some, None}
use Rattle.leader.specs.Leader.{pair, pairs, pair_row, slot_row, admitted, admitted_pair}
use Rattle.leader.specs.declared.Pair.{Pair}

pub both_true : (a b : Bool) → both_of a b ≡ true → (a ≡ true) × (b ≡ true)
both_true true b e = (refl, e)
both_true false b e = absurd (false≢true e)

-- the test passes at each entry and its place, counted from i
abbrev every : {A : Type 0} → (ℕ → A → Bool) → ℕ → List A → Bool
every f i [] = true
every f i (x ∷ xs) = both_of (f i x) (every f (suc i) xs)

module _ {A : Type 0} (f : ℕ → A → Bool) (d : A) where
  from : (xs : List A) (i : ℕ) → every f i xs ≡ true → (k : ℕ) → k < length xs → f (i + k) (get_or xs k d) ≡ true
  from [] i e k h = absurd (omega arith)
  from (x ∷ xs) i e zero h = ap (λ (m : ℕ). f m x) (add-zero i) ∙ (both_true (f i x) (every f (suc i) xs) e).0
  from (x ∷ xs) i e (suc k) h =
      let m : i + suc k ≡ suc i + k = omega arith in
      ap (λ (n : ℕ). f n (get_or xs k d)) m ∙ from xs (suc i) (both_true (f i x) (every f (suc i) xs) e).1 k (omega arith)

  at_each : (xs : List A) → every f 0 xs ≡ true → (k : ℕ) → k < length xs → f k (get_or xs k d) ≡ true
  at_each xs e k h = ap (λ (n : ℕ). f n (get_or xs k d)) (sym (zero-add k)) ∙ from xs 0 e k h

pub pair_bound : (i : ℕ) → i < 26 → (pair_row i).byte ≤ 1000
unfolding pair_row
pair_bound i h = leb-true _ 1000 (at_each (λ _ (x : Pair). leb x.byte 1000) _ pairs refl i h)

pub admitted_bound : (i : ℕ) → i < rows → admitted_pair i < 26
unfolding admitted_pair
admitted_bound i h = ltb-true _ 26 (at_each (λ _ (j : ℕ). ltb j 26) 0 admitted refl i h)

-- the row is that one
abbrev row_is : Option ℕ → ℕ → Bool
row_is (Some j) k = eqb j k
row_is None k = false

is_row : (q : Option ℕ) (k : ℕ) → row_is q k ≡ true → q ≡ Some k
is_row (Some j) k e = ap Some (eqb-true j k e)
is_row None k e = absurd (false≢true e)

-- the pair of a row of the plan has that row's slot
pub admitted_row : (i : ℕ) → i < rows → (pair_row (admitted_pair i)).row ≡ Some i
unfolding pair_row admitted_pair
admitted_row i h = is_row (pair_row (admitted_pair i)).row i (at_each (λ (k j : ℕ). row_is (pair_row j).row k) 0 admitted refl i h)

-- the table's pair at each place, as the code computes it: slots 12 bytes each from 181 on, facility pairs 14 bytes each from 421 on
pub pair_slot : (i : ℕ) → i < 15 → pair (181 + 12 * i) I6 (slot_row i) ≡ pair_row i
unfolding pair_row
pair_slot zero h = refl
pair_slot (suc zero) h = refl
pair_slot (suc (suc zero)) h = refl
pair_slot (suc (suc (suc zero))) h = refl
pair_slot (suc (suc (suc (suc zero)))) h = refl
pair_slot (suc (suc (suc (suc (suc zero))))) h = refl
pair_slot (suc (suc (suc (suc (suc (suc zero)))))) h = refl
pair_slot (suc (suc (suc (suc (suc (suc (suc zero))))))) h = refl
pair_slot (suc (suc (suc (suc (suc (suc (suc (suc zero)))))))) h = refl
pair_slot (suc (suc (suc (suc (suc (suc (suc (suc (suc zero))))))))) h = refl
pair_slot (suc (suc (suc (suc (suc (suc (suc (suc (suc (suc zero)))))))))) h = refl
pair_slot (suc (suc (suc (suc (suc (suc (suc (suc (suc (suc (suc zero))))))))))) h = refl
pair_slot (suc (suc (suc (suc (suc (suc (suc (suc (suc (suc (suc (suc zero)))))))))))) h = refl
pair_slot (suc (suc (suc (suc (suc (suc (suc (suc (suc (suc (suc (suc (suc zero))))))))))))) h = refl
pair_slot (suc (suc (suc (suc (suc (suc (suc (suc (suc (suc (suc (suc (suc (suc zero)))))))))))))) h = refl
pair_slot (suc (suc (suc (suc (suc (suc (suc (suc (suc (suc (suc (suc (suc (suc (suc i))))))))))))))) h = absurd (omega arith)

pair_facility : (i : ℕ) → i < 11 → pair (421 + 14 * i) I8 (Some (6 + i)) ≡ pair_row (15 + i)
unfolding pair_row
pair_facility zero h = refl
pair_facility (suc zero) h = refl
pair_facility (suc (suc zero)) h = refl
pair_facility (suc (suc (suc zero))) h = refl
pair_facility (suc (suc (suc (suc zero)))) h = refl
pair_facility (suc (suc (suc (suc (suc zero))))) h = refl
pair_facility (suc (suc (suc (suc (suc (suc zero)))))) h = refl
pair_facility (suc (suc (suc (suc (suc (suc (suc zero))))))) h = refl
pair_facility (suc (suc (suc (suc (suc (suc (suc (suc zero)))))))) h = refl
pair_facility (suc (suc (suc (suc (suc (suc (suc (suc (suc zero))))))))) h = refl
pair_facility (suc (suc (suc (suc (suc (suc (suc (suc (suc (suc zero)))))))))) h = refl
pair_facility (suc (suc (suc (suc (suc (suc (suc (suc (suc (suc (suc i))))))))))) h = absurd (omega arith)

pub pair_behind : (i : ℕ) → 15 ≤ i → i < 26 → pair (421 + 14 * (i - 15)) I8 (Some (i - 9)) ≡ pair_row i
pair_behind i l h =
    let a : i - 9 ≡ 6 + (i - 15) = omega arith in
    let b : 15 + (i - 15) ≡ i = omega arith in
    ap (λ (n : ℕ). pair (421 + 14 * (i - 15)) I8 (Some n)) a ∙ pair_facility (i - 15) (omega arith) ∙ ap pair_row b

-- an admitted pair is the pair of its row, which is one of the plan's
abbrev admits : ℕ → Option ℕ → Bool
admits k (Some j) = both_of (ltb j rows) (eqb (admitted_pair j) k)
admits k None = true

pub row_admitted : (i j : ℕ) → i < 26 → (pair_row i).row ≡ Some j → (j < rows) × (admitted_pair j ≡ i)
unfolding pair_row admitted_pair
row_admitted i j h e =
    let t : admits i (Some j) ≡ true =
    subst (λ (q : Option ℕ). admits i q ≡ true) e (at_each (λ (k : ℕ) (x : Pair). admits k x.row) (pair 0 I4 (Some 0)) pairs refl i h) in
    let b = both_true (ltb j rows) (eqb (admitted_pair j) i) t in
    (ltb-true j rows b.0, eqb-true (admitted_pair j) i b.1)
