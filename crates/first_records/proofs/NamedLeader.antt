-- A leader's record that is written from a plan which is allowed is a first record that names it: header and text, and the pairs of two blocks, each pair
-- by one law over its place in the block.
use Prim.Native.Nat.{ℕ, ◌+◌, ◌-◌, ◌*◌, ◌≤◌, ◌<◌}
use mathlib.Core.Path.{◌≡◌, refl, sym, ap, ◌∙◌, subst, subst₂}
use mathlib.Core.List.{List, [], ◌++◌}
use native.Mathlib.Omega.{arith}
use lib.ListN.{length, get_or, length-append, length-drop, get_or-replicate}
use lib.Seq.{get_or-drop}
use Rattle.words.specs.Words.{place_of}
use Rattle.decimal.specs.Text.{bytes}
use Rattle.decimal.specs.declared.Form.TheVariants.{I6, I8}
use Rattle.plan.specs.Tables.{rows, other_codes}
use Rattle.plan.specs.Plan.{first_length, first_codes}
use Rattle.plan.specs.declared.Plan.{Plan}
use Rattle.promises.specs.Newest.{Pair, NoSlot, Facility, LeaderDescriptor}
use Rattle.promises.specs.Rules.{leader, concat}
use Rattle.promises.specs.Bytes.{Bytes}
use Rattle.promises.specs.Witness.{four, made, blanks, first_of}
use Rattle.promises.proofs.Each.{next}
use Rattle.promises.proofs.WitnessFirst.{blank}
use Rattle.first_records.specs.Allowed.{Row, AllowedLeader}
use Rattle.first_records.specs.FirstRecord.{pairs_written, fifteen, eleven, leader_written, record_of}
use Rattle.first_records.proofs.Headed.{first_headed, first_bytes_lem}
use Rattle.first_records.proofs.Stands.{Stands, here, behind}
use Rattle.first_records.proofs.Pairs.{pairs_long, pairs_bytes, pair_written}

-- slots 8 to 15 have no numbers
fifteen_none : (xs : List ℕ) (i : ℕ) → i < 8 → get_or (fifteen xs) (7 + i) 0 ≡ 0
unfolding fifteen
fifteen_none xs i h = sym (get_or-drop 7 (fifteen xs) i 0) ∙ get_or-replicate 8 i 0 0 h

fifteen_long : (xs : List ℕ) → length (fifteen xs) ≡ 15
unfolding fifteen
fifteen_long xs = refl

eleven_long : (xs : List ℕ) → length xs ≡ rows → length (eleven xs) ≡ 11
eleven_long xs e = omega (arith, length-drop 6 xs)

-- no records, of no length
no_row : Row 0 0 0 0 0 0
no_row = record { counted = record { low = omega arith; high = omega arith }; none = λ e. refl; some = λ h. absurd (omega arith) }

module _ (p : Plan) (counts : length p.counts ≡ rows) (lengths : length p.lengths ≡ rows) where
  abbrev slots : List ℕ
  slots = concat (pairs_written 6 (fifteen p.counts) (fifteen p.lengths))

  abbrev facilities : List ℕ
  facilities = concat (pairs_written 8 (eleven p.counts) (eleven p.lengths))

  slots_same : length (fifteen p.counts) ≡ length (fifteen p.lengths)
  slots_same = fifteen_long p.counts ∙ sym (fifteen_long p.lengths)

  facilities_same : length (eleven p.counts) ≡ length (eleven p.lengths)
  facilities_same = eleven_long p.counts counts ∙ sym (eleven_long p.lengths lengths)

  slots_long : length slots ≡ 180
  slots_long = pairs_long 6 (fifteen p.counts) (fifteen p.lengths) slots_same ∙ ap (λ (n : ℕ). 12 * n) (fifteen_long p.counts)

  facilities_long : length facilities ≡ 154
  facilities_long = pairs_long 8 (eleven p.counts) (eleven p.lengths) facilities_same ∙ ap (λ (n : ℕ). 14 * n) (eleven_long p.counts counts)

  record_long : 12 + length (concat (leader_written p)) ≡ 720
  unfolding leader_written blanks
  record_long =
      omega (
        arith,
        slots_long,
        facilities_long,
        length-append slots (blanks 60 ++ (facilities ++ (blanks 146 ++ []))),
        length-append facilities (blanks 146 ++ []),
      )

  abbrev front : List ℕ
  front = made 1 (first_codes 2) (first_length 2) (bytes "A " ++ blanks 166)

  slots_stand : Stands slots 180 (record_of leader p)
  unfolding record_of leader_written first_of made four blanks
  slots_stand = behind front 180 refl (here slots (blanks 60 ++ (facilities ++ (blanks 146 ++ []))) 0 refl)

  facilities_stand : Stands facilities 420 (record_of leader p)
  unfolding record_of leader_written first_of made four blanks
  facilities_stand =
      behind front 420 refl
      (behind slots 240 (omega (arith, slots_long)) (behind (blanks 60) 60 refl (here facilities (blanks 146 ++ []) 0 refl)))

  -- pair j of the fifteen
  slot : (least most shortest longest : ℕ) → most < 1000000 → longest < 1000000 → (j : ℕ) → j < 15
      → Row least most shortest longest (get_or (fifteen p.counts) j 0) (get_or (fifteen p.lengths) j 0)
      → Pair (record_of leader p) (181 + 12 * j) I6 least most shortest longest (get_or (fifteen p.counts) j 0) (get_or (fifteen p.lengths) j 0)
  unfolding place_of
  slot least most shortest longest few short j h =
      pair_written (record_of leader p) 181 I6 refl (omega arith) (omega arith) (fifteen p.counts) (fifteen p.lengths) slots_same slots_stand
      least most shortest longest few short j (omega (arith, fifteen_long p.counts))

  -- pair i of the eleven
  facility : (i : ℕ) → i < 11 → Row 0 1 12 99999999 (get_or p.counts (6 + i) 0) (get_or p.lengths (6 + i) 0)
      → Facility (record_of leader p) i (get_or p.counts (6 + i) 0) (get_or p.lengths (6 + i) 0)
  unfolding place_of
  facility i h =
      rw (← get_or-drop 6 p.counts i 0, ← get_or-drop 6 p.lengths i 0)
      (pair_written (record_of leader p) 421 I8 refl (omega arith) (omega arith) (eleven p.counts) (eleven p.lengths) facilities_same facilities_stand
      0 1 12 99999999 (omega arith) (omega arith) i (omega (arith, eleven_long p.counts counts)))

  no_slot : (i : ℕ) → 8 ≤ i → i ≤ 15 → NoSlot (record_of leader p) (169 + 12 * i)
  no_slot i l u =
      let k : ℕ = i - 8 in
      let r : List ℕ = record_of leader p in
      subst (NoSlot r) (let e : 181 + 12 * (7 + k) ≡ 169 + 12 * i = omega arith in e)
      (subst₂ (λ (c m : ℕ). Row 0 0 0 0 c m → Pair r (181 + 12 * (7 + k)) I6 0 0 0 0 c m) (fifteen_none p.counts k (omega arith))
      (fifteen_none p.lengths k (omega arith)) (slot 0 0 0 0 (omega arith) (omega arith) (7 + k) (omega arith)) no_row)

  pub leader_named : AllowedLeader p → LeaderDescriptor (record_of leader p) p
  unfolding record_of leader_written blanks first_of made four first_length first_codes other_codes place_of fifteen
  leader_named a =
      record {
        is = first_headed 2 (leader_written p) record_long;
        ab = refl;
        slot1 = slot 1 1 4096 4096 (omega arith) (omega arith) 0 (omega arith) a.slot1;
        slot2 = slot 0 1 1620 1620 (omega arith) (omega arith) 1 (omega arith) a.slot2;
        slot3 = slot 0 9 12 999999 (omega arith) (omega arith) 2 (omega arith) a.slot3;
        slot4 = slot 0 9 12 999999 (omega arith) (omega arith) 3 (omega arith) a.slot4;
        slot5 = slot 0 9 12 999999 (omega arith) (omega arith) 4 (omega arith) a.slot5;
        slot6 = slot 0 0 0 0 (omega arith) (omega arith) 5 (omega arith) no_row;
        slot7 = slot 0 9 12 999999 (omega arith) (omega arith) 6 (omega arith) a.slot7;
        slot8to15 = no_slot;
        facilities = λ i l. facility i l (a.facilities i l);
      }

pub leader_bytes_lem : (p : Plan) → Bytes (record_of leader p)
unfolding record_of leader_written
leader_bytes_lem p =
    first_bytes_lem leader (leader_written p)
    (next (omega arith) (next (blank 166) (next (pairs_bytes 6 (fifteen p.counts) (fifteen p.lengths)) (next (blank 60)
    (next (pairs_bytes 8 (eleven p.counts) (eleven p.lengths)) (next (blank 146) tt))))))
