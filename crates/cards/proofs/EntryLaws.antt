-- The fault of an entry by the tests that the code makes, and what an entry without one has: its kind, all its bytes, and a body that passes its test.
use Prim.Native.Nat.{ℕ, ◌+◌, ◌≤◌}
use mathlib.Core.Path.{◌≡◌, refl, subst}
use mathlib.Core.List.{List}
use mathlib.Core.Bool.{Bool, true, false}
use native.Mathlib.Omega.{arith}
use lib.Dec.{eqb}
use lib.ListN.{length}
use borrow.Author.Tests.{eq-eqb, ne_eqb, eqb-true, ltb-true}
use Rattle.std.specs.Prelude.{Result, Ok, Err}
use Rattle.words.specs.Tests.{pick, both_of}
use Rattle.words.proofs.Laws.{both_l, both_r}
use Rattle.entry.specs.Entry.{kind_of, whole_of}
use Rattle.cards.specs.Check.{body_of, fault_of}

module _ (want : ℕ) (holds : Bool) (r : List ℕ) where
  pub fault_none : length r ≡ 0 → fault_of want holds r ≡ Err 21
  unfolding fault_of
  fault_none h = simp (eq-eqb (length r) 0 h)

  module _ (some : length r ≡ 0 → ⊥) where
    pub fault_unknown : body_of (kind_of r) ≡ 0 → fault_of want holds r ≡ Err 20
    unfolding fault_of
    fault_unknown h = simp (ne_eqb (length r) 0 some, eq-eqb (body_of (kind_of r)) 0 h)

    module _ (known : body_of (kind_of r) ≡ 0 → ⊥) where
      pub fault_cut : whole_of (body_of (kind_of r)) r ≡ false → fault_of want holds r ≡ Err 21
      unfolding fault_of
      fault_cut h = simp (ne_eqb (length r) 0 some, ne_eqb (body_of (kind_of r)) 0 known, h)

      pub fault_by : (t : Bool) → whole_of (body_of (kind_of r)) r ≡ true → both_of (eqb (kind_of r) want) holds ≡ t
          → fault_of want holds r ≡ pick t (Ok tt) (Err 22)
      unfolding fault_of
      fault_by t h e = simp (ne_eqb (length r) 0 some, ne_eqb (body_of (kind_of r)) 0 known, h, e)

  -- nothing is wrong
  pub record Passes : Type 0 where
    pub whole : 1 + body_of want ≤ length r
    pub kind : kind_of r ≡ want
    pub holds' : holds ≡ true

  pub passes : fault_of want holds r ≡ Ok tt → Passes
  unfolding fault_of
  passes e = go (eqb (length r) 0) (eqb (body_of (kind_of r)) 0) (whole_of (body_of (kind_of r)) r) (both_of (eqb (kind_of r) want) holds) refl refl e
    where
      go : (a b c t : Bool) → whole_of (body_of (kind_of r)) r ≡ c → both_of (eqb (kind_of r) want) holds ≡ t
          → ◌≡◌ {A = Result (Unit {0}) ℕ} (pick a (Err 21) (pick b (Err 20) (pick c (pick t (Ok tt) (Err 22)) (Err 21)))) (Ok tt) → Passes
      go true b c t p q h = absurd cc
      go false true c t p q h = absurd cc
      go false false false t p q h = absurd cc
      go false false true false p q h = absurd cc
      go false false true true p q h =
          let k : kind_of r ≡ want = eqb-true (kind_of r) want (both_l (eqb (kind_of r) want) holds q) in
          let l = ltb-true (body_of (kind_of r)) (length r) p in
          record {
            whole = subst (λ (i : ℕ). 1 + body_of i ≤ length r) k (omega arith);
            kind = k;
            holds' = both_r (eqb (kind_of r) want) holds q;
          }
