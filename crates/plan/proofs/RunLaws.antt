-- The runs of equal records: their sum, and one step of the search for record k, over any lists of counts and lengths.
use Prim.Native.Nat.{ℕ, ◌+◌, ◌-◌, ◌*◌, ◌<◌, ◌≤◌}
use mathlib.Core.List.{List, [], ◌∷◌}
use mathlib.Core.Path.{◌≡◌, refl, sym, ap, ◌∙◌}
use native.Mathlib.Numerals.{add-one}
use native.Mathlib.Omega.{arith}
use native.Mathlib.Nat.{mul-le-mul, le_refl}
use lib.ListN.{length, get_or, drop, drop_of_length-le}
use lib.Seq.{drop-cons}
use lib.Dec.{ltb}
use borrow.Author.Tests.{lt-ltb, le-ltb}
use Rattle.std.specs.Prelude.{sum}
use Rattle.std.proofs.lemmas.List.Sums.{sum_by-cons}
use Rattle.words.specs.Tests.{pick}
use Rattle.plan.specs.Tables.{rows}
use Rattle.plan.specs.Plan.{spot_from, sum_of, total_of, run_counts, Small}
use Rattle.plan.specs.declared.Plan.{Plan}

-- one more element, at the code's i + 1
pub drop_more : (l : List ℕ) (i : ℕ) → i < length l → drop i l ≡ get_or l i 0 ∷ drop (i + 1) l
drop_more l i h = rw (add-one, drop-cons l i 0)

module _ (i k at : ℕ) (cs ls : List ℕ) (p : i < length cs) (q : i < length ls) where
  spot_at : spot_from (i + 1) (drop i cs) (drop i ls) k at
      ≡ pick (ltb k (get_or cs i 0)) (record { run = i + 1; length = get_or ls i 0; start = at + k * get_or ls i 0 })
      (spot_from (i + 1 + 1) (drop (i + 1) cs) (drop (i + 1) ls) (k - get_or cs i 0) (at + get_or cs i 0 * get_or ls i 0))
  unfolding spot_from
  spot_at = rw (drop_more cs i p, drop_more ls i q)

  pub spot_here : k < get_or cs i 0 →
      spot_from (i + 1) (drop i cs) (drop i ls) k at ≡ record { run = i + 1; length = get_or ls i 0; start = at + k * get_or ls i 0 }
  spot_here h = spot_at ∙ simp (lt-ltb _ _ h)

  pub spot_next : get_or cs i 0 ≤ k
      → spot_from (i + 1) (drop i cs) (drop i ls) k at ≡ spot_from (i + 1 + 1) (drop (i + 1) cs) (drop (i + 1) ls) (k - get_or cs i 0)
      (at + get_or cs i 0 * get_or ls i 0)
  spot_next h = spot_at ∙ simp (le-ltb _ _ h)

pub spot_end : (i k at : ℕ) (cs ls : List ℕ) → length cs ≤ i → spot_from (i + 1) (drop i cs) (drop i ls) k at ≡ record { run = i + 1; length = 0; start = at }
unfolding spot_from
spot_end i k at cs ls h = rw (drop_of_length-le cs h)

-- a part of a run takes at most what the run takes
pub run_small : (x i : ℕ) (cs ls : List ℕ) → Small cs ls → i < rows → x ≤ get_or cs i 0 → x * get_or ls i 0 ≤ 999998000001
run_small x i cs ls s k h =
    let m : x * get_or ls i 0 ≤ get_or cs i 0 * get_or ls i 0 = mul-le-mul h (le_refl (get_or ls i 0)) in
    omega (arith, s.area i k)

-- the definition's sum is the library's
pub sum_is : (l : List ℕ) → sum_of l ≡ sum l
unfolding sum_of
sum_is [] = refl
sum_is (x ∷ xs) = ap (λ (n : ℕ). x + n) (sum_is xs) ∙ sym (sum_by-cons (λ (n : ℕ). n) x xs)

pub total_is : (kind : ℕ) (p : Plan) (cs : List ℕ) → cs ≡ run_counts kind p → 1 + sum cs ≡ total_of kind p
unfolding total_of
total_is kind p cs e = ap (λ (n : ℕ). 1 + n) (sym (sum_is cs) ∙ ap sum_of e)
