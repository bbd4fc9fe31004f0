-- A leader's first record without a fault is exactly the descriptor that `Rules` describes, for the plan whose counts and lengths it says: header,
-- text, and 26 pairs, pair by pair.
use Prim.Native.Nat.{ℕ, ◌+◌, ◌*◌, ◌≤◌, ◌<◌}
use mathlib.Core.Path.{◌≡◌, refl, ap}
use mathlib.Core.List.{List}
use mathlib.Core.Logic.{◌↔◌}
use native.Mathlib.Omega.{arith}
use lib.ListN.{length, get_or}
use Rattle.std.specs.Prelude.{Ok, Some, None, Option}
use Rattle.words.specs.Words.{place_of}
use Rattle.decimal.specs.Text.{bytes}
use Rattle.decimal.specs.Forms.{width_of, shape_of}
use Rattle.decimal.specs.declared.Shape.TheVariants.{Whole}
use Rattle.decimal.specs.declared.Form.TheVariants.{I4}
use Rattle.plan.specs.Tables.{other_codes, slot_of, rows}
use Rattle.plan.specs.Plan.{first_codes}
use Rattle.plan.specs.declared.Plan.{Plan}
use Rattle.plan.specs.declared.Slot.{Slot}
use Rattle.leader.specs.Leader.{pair, pairs, pair_row, slot_in, pair_tests, count_at, length_at, leader_record, leader_tests, counts_of, lengths_of}
use Rattle.bodies.specs.Bodies.{body_of, body_tests}
use Rattle.leader.specs.declared.Pair as declared
use Rattle.verdicts.proofs.Holding.{Holds, fine_holds, holds_fine, each_holds, holds_each}
use Rattle.leader.proofs.PairLaws.{length_none, count_in_lem}
use Rattle.headers.specs.Header.{header_of}
use Rattle.promises.specs.Newest.{Pair, NoSlot, Facility, LeaderDescriptor}
use Rattle.promises.proofs.Each.{each_at, next}
use Rattle.promises.proofs.Parts.{text_is, header_is, pair_is}

-- row i of the plan has the count and the length that the record says
abbrev pub NamedAt : List ℕ → Plan → ℕ → Type 0
NamedAt r q i = (get_or (counts_of r) i 0 ≡ get_or q.counts i 0) × (get_or (lengths_of r) i 0 ≡ get_or q.lengths i 0)

-- the plan's counts and lengths are those that the record says
abbrev pub Named : List ℕ → Plan → Type 0
Named r q = (i : ℕ) → i < rows → NamedAt r q i

module _ (r : List ℕ) (size : length r ≡ 720) where
  abbrev row : ℕ → declared.Pair
  row j = get_or pairs j (pair 0 I4 (Some 0))

  -- pair j without a fault, with its count and length
  abbrev Passes : ℕ → ℕ → ℕ → Type 0
  Passes j c l = Holds (pair_tests r (row j)) × (count_at r (row j) ≡ c) × (length_at r (row j) ≡ l)

  -- the rule for it: a pair under the ranges of its row's slot
  abbrev Ruled : ℕ → Slot → ℕ → ℕ → Type 0
  Ruled j s = Pair r (row j).byte (row j).form s.least s.most s.shortest s.longest

  -- any pair whose fields lie in the record: the one is the other
  is : (j : ℕ) → place_of (row j).byte + 6 ≤ length r → place_of ((row j).byte + 6) + width_of (row j).form ≤ length r →
      shape_of (row j).form ≡ Whole → (c l : ℕ)
      → Passes j c l ↔ Ruled j (slot_in (row j).row) c l
  unfolding pair_tests
  is j = pair_is r (row j) (slot_in (row j).row)

  -- a slot that is not admitted says 0
  none_in : (j : ℕ) → (row j).row ≡ None → Holds (pair_tests r (row j)) → Passes j 0 0
  unfolding slot_of
  none_in j e h =
      let x = row j in
      let c = count_in_lem r x h in
      let z : count_at r x ≡ 0 = omega (arith, c.1, ap (λ (i : Option ℕ). (slot_in i).most) e) in
      (h, z, length_none r x z)

  module _ (q : Plan) where
    slots_to : header_of 1 (first_codes 2) 720 r ≡ Ok tt → Holds (leader_tests r) → Named r q → LeaderDescriptor r q
    unfolding leader_tests first_codes other_codes slot_of place_of counts_of lengths_of pair_row
    slots_to e h m =
        let held = each_holds (pair_tests r) (pair 0 I4 (Some 0)) pairs h.1 in
        record {
          is = (header_is 1 (first_codes 2) 720 r size).0 e;
          ab = (text_is r 12 (bytes "A ") (omega arith)).0 h.0;
          slot1 = (is 0 (omega arith) (omega arith) refl _ _).0 (held 0 (omega arith), (m 0 (omega arith)).0, (m 0 (omega arith)).1);
          slot2 = (is 1 (omega arith) (omega arith) refl _ _).0 (held 1 (omega arith), (m 1 (omega arith)).0, (m 1 (omega arith)).1);
          slot3 = (is 2 (omega arith) (omega arith) refl _ _).0 (held 2 (omega arith), (m 2 (omega arith)).0, (m 2 (omega arith)).1);
          slot4 = (is 3 (omega arith) (omega arith) refl _ _).0 (held 3 (omega arith), (m 3 (omega arith)).0, (m 3 (omega arith)).1);
          slot5 = (is 4 (omega arith) (omega arith) refl _ _).0 (held 4 (omega arith), (m 4 (omega arith)).0, (m 4 (omega arith)).1);
          slot6 = (is 5 (omega arith) (omega arith) refl 0 0).0 (none_in 5 refl (held 5 (omega arith)));
          slot7 = (is 6 (omega arith) (omega arith) refl _ _).0 (held 6 (omega arith), (m 5 (omega arith)).0, (m 5 (omega arith)).1);
          slot8to15 = λ i l u.
              each_at (λ (i : ℕ). NoSlot r (169 + 12 * i)) 8 8
              (next ((is 7 (omega arith) (omega arith) refl 0 0).0 (none_in 7 refl (held 7 (omega arith))))
              (next ((is 8 (omega arith) (omega arith) refl 0 0).0 (none_in 8 refl (held 8 (omega arith))))
              (next ((is 9 (omega arith) (omega arith) refl 0 0).0 (none_in 9 refl (held 9 (omega arith))))
              (next ((is 10 (omega arith) (omega arith) refl 0 0).0 (none_in 10 refl (held 10 (omega arith))))
              (next ((is 11 (omega arith) (omega arith) refl 0 0).0 (none_in 11 refl (held 11 (omega arith))))
              (next ((is 12 (omega arith) (omega arith) refl 0 0).0 (none_in 12 refl (held 12 (omega arith))))
              (next ((is 13 (omega arith) (omega arith) refl 0 0).0 (none_in 13 refl (held 13 (omega arith))))
              (next ((is 14 (omega arith) (omega arith) refl 0 0).0 (none_in 14 refl (held 14 (omega arith)))) tt)))))))) i l (omega arith);
          facilities = λ i l.
              each_at (λ (i : ℕ). Facility r i (get_or q.counts (6 + i) 0) (get_or q.lengths (6 + i) 0)) 0 11
              (next ((is 15 (omega arith) (omega arith) refl _ _).0 (held 15 (omega arith), (m 6 (omega arith)).0, (m 6 (omega arith)).1))
              (next ((is 16 (omega arith) (omega arith) refl _ _).0 (held 16 (omega arith), (m 7 (omega arith)).0, (m 7 (omega arith)).1))
              (next ((is 17 (omega arith) (omega arith) refl _ _).0 (held 17 (omega arith), (m 8 (omega arith)).0, (m 8 (omega arith)).1))
              (next ((is 18 (omega arith) (omega arith) refl _ _).0 (held 18 (omega arith), (m 9 (omega arith)).0, (m 9 (omega arith)).1))
              (next ((is 19 (omega arith) (omega arith) refl _ _).0 (held 19 (omega arith), (m 10 (omega arith)).0, (m 10 (omega arith)).1))
              (next ((is 20 (omega arith) (omega arith) refl _ _).0 (held 20 (omega arith), (m 11 (omega arith)).0, (m 11 (omega arith)).1))
              (next ((is 21 (omega arith) (omega arith) refl _ _).0 (held 21 (omega arith), (m 12 (omega arith)).0, (m 12 (omega arith)).1))
              (next ((is 22 (omega arith) (omega arith) refl _ _).0 (held 22 (omega arith), (m 13 (omega arith)).0, (m 13 (omega arith)).1))
              (next ((is 23 (omega arith) (omega arith) refl _ _).0 (held 23 (omega arith), (m 14 (omega arith)).0, (m 14 (omega arith)).1))
              (next ((is 24 (omega arith) (omega arith) refl _ _).0 (held 24 (omega arith), (m 15 (omega arith)).0, (m 15 (omega arith)).1))
              (next ((is 25 (omega arith) (omega arith) refl _ _).0 (held 25 (omega arith), (m 16 (omega arith)).0, (m 16 (omega arith)).1)) tt)))))))))))
              i (omega arith) (omega arith);
        }

    slots_from : LeaderDescriptor r q → Holds (leader_tests r) × Named r q
    unfolding leader_tests slot_of place_of counts_of lengths_of pair_row
    slots_from d =
        let s0 = (is 0 (omega arith) (omega arith) refl _ _).1 d.slot1 in
        let s1 = (is 1 (omega arith) (omega arith) refl _ _).1 d.slot2 in
        let s2 = (is 2 (omega arith) (omega arith) refl _ _).1 d.slot3 in
        let s3 = (is 3 (omega arith) (omega arith) refl _ _).1 d.slot4 in
        let s4 = (is 4 (omega arith) (omega arith) refl _ _).1 d.slot5 in
        let s5 = (is 5 (omega arith) (omega arith) refl _ _).1 d.slot6 in
        let s6 = (is 6 (omega arith) (omega arith) refl _ _).1 d.slot7 in
        let s7 = (is 7 (omega arith) (omega arith) refl _ _).1 (d.slot8to15 8 (omega arith) (omega arith)) in
        let s8 = (is 8 (omega arith) (omega arith) refl _ _).1 (d.slot8to15 9 (omega arith) (omega arith)) in
        let s9 = (is 9 (omega arith) (omega arith) refl _ _).1 (d.slot8to15 10 (omega arith) (omega arith)) in
        let s10 = (is 10 (omega arith) (omega arith) refl _ _).1 (d.slot8to15 11 (omega arith) (omega arith)) in
        let s11 = (is 11 (omega arith) (omega arith) refl _ _).1 (d.slot8to15 12 (omega arith) (omega arith)) in
        let s12 = (is 12 (omega arith) (omega arith) refl _ _).1 (d.slot8to15 13 (omega arith) (omega arith)) in
        let s13 = (is 13 (omega arith) (omega arith) refl _ _).1 (d.slot8to15 14 (omega arith) (omega arith)) in
        let s14 = (is 14 (omega arith) (omega arith) refl _ _).1 (d.slot8to15 15 (omega arith) (omega arith)) in
        let s15 = (is 15 (omega arith) (omega arith) refl _ _).1 (d.facilities 0 (omega arith)) in
        let s16 = (is 16 (omega arith) (omega arith) refl _ _).1 (d.facilities 1 (omega arith)) in
        let s17 = (is 17 (omega arith) (omega arith) refl _ _).1 (d.facilities 2 (omega arith)) in
        let s18 = (is 18 (omega arith) (omega arith) refl _ _).1 (d.facilities 3 (omega arith)) in
        let s19 = (is 19 (omega arith) (omega arith) refl _ _).1 (d.facilities 4 (omega arith)) in
        let s20 = (is 20 (omega arith) (omega arith) refl _ _).1 (d.facilities 5 (omega arith)) in
        let s21 = (is 21 (omega arith) (omega arith) refl _ _).1 (d.facilities 6 (omega arith)) in
        let s22 = (is 22 (omega arith) (omega arith) refl _ _).1 (d.facilities 7 (omega arith)) in
        let s23 = (is 23 (omega arith) (omega arith) refl _ _).1 (d.facilities 8 (omega arith)) in
        let s24 = (is 24 (omega arith) (omega arith) refl _ _).1 (d.facilities 9 (omega arith)) in
        let s25 = (is 25 (omega arith) (omega arith) refl _ _).1 (d.facilities 10 (omega arith)) in (
          (
            (text_is r 12 (bytes "A ") (omega arith)).1 d.ab,
            holds_each (pair_tests r) (pair 0 I4 (Some 0)) pairs
                (λ i l.
                each_at (λ (j : ℕ). Holds (pair_tests r (row j))) 0 26
                (next s0.0 (next s1.0 (next s2.0 (next s3.0 (next s4.0 (next s5.0
                (next s6.0 (next s7.0 (next s8.0 (next s9.0 (next s10.0 (next s11.0
                (next s12.0 (next s13.0 (next s14.0 (next s15.0 (next s16.0 (next s17.0
                (next s18.0 (next s19.0 (next s20.0 (next s21.0 (next s22.0 (next s23.0
                (next s24.0 (next s25.0 tt)))))))))))))))))))))))))) i (omega arith) l),
          ),
          λ i l.
              each_at (NamedAt r q) 0 rows
              (next (s0.1, s0.2) (next (s1.1, s1.2) (next (s2.1, s2.2) (next (s3.1, s3.2)
              (next (s4.1, s4.2) (next (s6.1, s6.2) (next (s15.1, s15.2) (next (s16.1, s16.2)
              (next (s17.1, s17.2) (next (s18.1, s18.2) (next (s19.1, s19.2) (next (s20.1, s20.2)
              (next (s21.1, s21.2) (next (s22.1, s22.2) (next (s23.1, s23.2) (next (s24.1, s24.2)
              (next (s25.1, s25.2) tt))))))))))))))))) i (omega arith) l,
        )

pub leader_is : (p q : Plan) (r : List ℕ) → length r ≡ 720
    → ((header_of 1 (first_codes 2) 720 r ≡ Ok tt) × (body_of 2 0 p 0 r ≡ Ok tt) × Named r q) ↔ LeaderDescriptor r q
unfolding body_of body_tests leader_record first_codes other_codes
leader_is p q r size = (
  λ h. slots_to r size q h.0 (fine_holds (leader_tests r) h.1) h.2,
  λ d.
      let n = slots_from r size q d in
      ((header_is 1 (first_codes 2) 720 r size).1 d.is, holds_fine (leader_tests r) n.0, n.1),
)
