-- A pair's count is judged first, and its length only where the count is not 0: what its tests say in each case, and so what the code reads of it.
use Prim.Native.Nat.{ℕ, ◌+◌, ◌≤◌}
use mathlib.Core.Path.{◌≡◌, refl, sym, ap, ap₂, ◌∙◌, subst}
use mathlib.Core.List.{List, []}
use mathlib.Core.Bool.{Bool}
use lib.Dec.{eqb}
use borrow.Author.Tests.{eq-eqb, ne_eqb}
use Rattle.std.specs.Prelude.{Option, Some, None, Result, Ok, Err, unwrap_or}
use Rattle.words.specs.Tests.{pick}
use Rattle.words.specs.Words.{place_of}
use Rattle.words.specs.declared.Refusal.{Refusal}
use Rattle.decimal.specs.declared.Form.TheVariants.{I6}
use Rattle.decimal.specs.declared.Number.{Number}
use Rattle.plan.specs.Tables.{rows, slot_of}
use Rattle.verdicts.specs.Tests.{Test, first_fault, count_tests, number_tests, verdict_of, whole_of, counted_of, needed_of}
use Rattle.verdicts.specs.Numbers.{at, last_of, number_at}
use Rattle.leader.specs.Leader.{count_at, length_at, pair_tests, pair_of, slot_in}
use Rattle.leader.specs.declared.Pair.{Pair}
use Rattle.verdicts.proofs.TestLaws.{found, passed, named_fault, named_fine}
use Rattle.verdicts.proofs.FieldLaws.{at_unnamed, counted_fault, counted_number, needed_fault, needed_number}
use Rattle.verdicts.proofs.Holding.{Holds, holds_split, number_holds, count_holds}

-- the slot of a pair, as the code looks it up
pub slot_is : (q : Option ℕ) → slot_of (unwrap_or q rows) ≡ slot_in q
slot_is (Some i) = refl
slot_is None = refl

module _ (r : List ℕ) (x : Pair) where
  -- the tests of the count, and those of the length
  abbrev pub counting : List Test
  counting = count_tests (at r x.byte I6) (place_of x.byte) (slot_in x.row).least (slot_in x.row).most

  abbrev pub measuring : List Test
  measuring = number_tests (at r (x.byte + 6) x.form) (place_of (x.byte + 6)) (last_of (x.byte + 6) x.form) (slot_in x.row).shortest (slot_in x.row).longest

  behind : List Test
  behind = pick (eqb (count_at r x) 0) [] measuring

  pair_found : {y : Refusal} → first_fault counting ≡ Err y → first_fault (pair_tests r x) ≡ Err y
  unfolding pair_tests behind
  pair_found q = found counting behind q

  pair_none : first_fault counting ≡ Ok tt → count_at r x ≡ 0 → first_fault (pair_tests r x) ≡ Ok tt
  unfolding pair_tests behind first_fault
  pair_none q z = passed counting behind q ∙ ap (λ (b : Bool). first_fault (pick b [] measuring)) (eq-eqb (count_at r x) 0 z)

  pair_some : first_fault counting ≡ Ok tt → (count_at r x ≡ 0 → ⊥) → first_fault (pair_tests r x) ≡ first_fault measuring
  unfolding pair_tests behind
  pair_some q z = passed counting behind q ∙ ap (λ (b : Bool). first_fault (pick b [] measuring)) (ne_eqb (count_at r x) 0 z)

  -- the length, by the count
  pub length_none : count_at r x ≡ 0 → length_at r x ≡ 0
  unfolding length_at
  length_none z = rw (eq-eqb (count_at r x) 0 z)

  pub length_some : (count_at r x ≡ 0 → ⊥) → length_at r x ≡ number_at r (x.byte + 6) x.form
  unfolding length_at
  length_some z = rw (ne_eqb (count_at r x) 0 z)

  -- a pair that passes
  module _ (h : Holds (pair_tests r x)) where
    halves : Holds counting × Holds behind
    unfolding pair_tests behind
    halves = holds_split counting behind h

    pub count_in_lem : ((slot_in x.row).least ≤ count_at r x) × (count_at r x ≤ (slot_in x.row).most)
    unfolding count_at
    count_in_lem = count_holds (at r x.byte I6) (place_of x.byte) (slot_in x.row).least (slot_in x.row).most halves.0

    pub length_in : (count_at r x ≡ 0 → ⊥) → ((slot_in x.row).shortest ≤ length_at r x) × (length_at r x ≤ (slot_in x.row).longest)
    unfolding behind
    length_in z =
        let k : Holds measuring = subst (λ (b : Bool). Holds (pick b [] measuring)) (ne_eqb (count_at r x) 0 z) halves.1 in
        rw (length_some z)
        (number_holds (at r (x.byte + 6) x.form) (place_of (x.byte + 6)) (last_of (x.byte + 6) x.form)
        (slot_in x.row).shortest (slot_in x.row).longest k)

  -- ---- a pair as the code reads it: its count's field, then its length's

  abbrev pub counted : Result Number Refusal
  counted = counted_of (at r x.byte I6) (place_of x.byte) (slot_in x.row).least (slot_in x.row).most

  abbrev pub measured : Result Number Refusal
  measured = needed_of (at r (x.byte + 6) x.form) (place_of (x.byte + 6)) (last_of (x.byte + 6) x.form) (slot_in x.row).shortest (slot_in x.row).longest

  of_count : first_fault counting ≡ verdict_of counted
  of_count = sym (counted_fault (place_of x.byte) (slot_in x.row).least (slot_in x.row).most (at r x.byte I6) (at_unnamed r x.byte I6))

  of_length : first_fault measuring ≡ verdict_of measured
  of_length =
      sym (needed_fault (place_of (x.byte + 6)) (last_of (x.byte + 6) x.form) (slot_in x.row).shortest (slot_in x.row).longest
      (at r (x.byte + 6) x.form) (at_unnamed r (x.byte + 6) x.form))

  pub bad_count : {y : Refusal} → counted ≡ Err y → Err y ≡ pair_of r x
  unfolding pair_of
  bad_count q = named_fault _ (pair_found (of_count ∙ ap verdict_of q))

  module _ {m : Number} (q : counted ≡ Ok m) where
    of_fine : first_fault counting ≡ Ok tt
    of_fine = of_count ∙ ap verdict_of q

    count_is : whole_of m.units ≡ count_at r x
    unfolding count_at
    count_is = counted_number (place_of x.byte) (slot_in x.row).least (slot_in x.row).most (at r x.byte I6) q

    pub none_held : whole_of m.units ≡ 0 → Ok (record { count = whole_of m.units; length = 0 }) ≡ pair_of r x
    unfolding pair_of
    none_held z =
        let n = sym count_is ∙ z in
        ap₂ (λ (a b : ℕ). Ok (record { count = a; length = b })) count_is (sym (length_none n)) ∙ named_fine _ (pair_none of_fine n)

    module _ (n : whole_of m.units ≡ 0 → ⊥) where
      some : count_at r x ≡ 0 → ⊥
      some z = n (count_is ∙ z)

      pub bad_length : {y : Refusal} → measured ≡ Err y → Err y ≡ pair_of r x
      unfolding pair_of
      bad_length o = named_fault _ (pair_some of_fine some ∙ of_length ∙ ap verdict_of o)

      pub pair_held : {k : Number} → measured ≡ Ok k → Ok (record { count = whole_of m.units; length = whole_of k.units }) ≡ pair_of r x
      unfolding pair_of
      pair_held o =
          let l = needed_number (place_of (x.byte + 6)) (last_of (x.byte + 6) x.form) (slot_in x.row).shortest (slot_in x.row).longest
          (at r (x.byte + 6) x.form) o ∙ sym (length_some some) in
          ap₂ (λ (a b : ℕ). Ok (record { count = a; length = b })) count_is l ∙ named_fine _ (pair_some of_fine some ∙ of_length ∙ ap verdict_of o)

pub ruleset steps = (slot_is, bad_count, none_held, bad_length, pair_held)
