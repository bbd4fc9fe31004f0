-- The tests of a leader's records, in document 01's order and with its byte numbers (from 1), and the plan's numbers that its descriptor names
-- ("First records and what they promise"; 000). Assumes nothing.
use Rattle.std.specs.Prelude.{ℕ, ◌+◌, List, [], ◌∷◌, ◌++◌, map, eqb, ltb, get_or, Option, Some, None, Result}
use Rattle.std.proofs.Math.Seq.{slice}
use Rattle.words.specs.Tests.{pick}
use Rattle.words.specs.Words.{place_of}
use Rattle.words.specs.declared.Refusal.{Refusal}
use Rattle.decimal.specs.declared.Form.{Form}
use Rattle.decimal.specs.declared.Form.TheVariants.{I4, I6, I8}
use Rattle.fields.specs.Listed.{table}
use Rattle.fields.specs.declared.Listed.{Listed}
use Rattle.plan.specs.Tables.{rows, slot_of}
use Rattle.plan.specs.declared.Runs.{Runs}
use Rattle.plan.specs.declared.Slot.{Slot}
use Rattle.verdicts.specs.Tests.{Test, first_fault, named_by, each, number_tests, count_tests, readable_test}
use Rattle.verdicts.specs.Numbers.{at, last_of, number_at, first_text}
use Rattle.leader.specs.declared.Pair.{Pair}
use Rattle.leader.specs.declared.Held.{Held}

-- ---- the pairs of count and length, by position: first byte, the length's form, the row of the plan (`None`: not admitted)

abbrev pub pair : ℕ → Form → Option ℕ → Pair
pair byte k row = record { byte = byte; form = k; row = row }

-- slots 1 to 15 (I6 and I6), then the eleven facility pairs (I6 and I8)
abbrev pub pairs : List Pair
pairs =
    pair 181 I6 (Some 0)
    ∷ pair 193 I6 (Some 1)
    ∷ pair 205 I6 (Some 2)
    ∷ pair 217 I6 (Some 3)
    ∷ pair 229 I6 (Some 4)
    ∷ pair 241 I6 None
    ∷ pair 253 I6 (Some 5)
    ∷ pair 265 I6 None
    ∷ pair 277 I6 None
    ∷ pair 289 I6 None
    ∷ pair 301 I6 None
    ∷ pair 313 I6 None
    ∷ pair 325 I6 None
    ∷ pair 337 I6 None
    ∷ pair 349 I6 None
    ∷ pair 421 I8 (Some 6)
    ∷ pair 435 I8 (Some 7)
    ∷ pair 449 I8 (Some 8)
    ∷ pair 463 I8 (Some 9)
    ∷ pair 477 I8 (Some 10)
    ∷ pair 491 I8 (Some 11)
    ∷ pair 505 I8 (Some 12)
    ∷ pair 519 I8 (Some 13)
    ∷ pair 533 I8 (Some 14)
    ∷ pair 547 I8 (Some 15)
    ∷ pair 561 I8 (Some 16)
    ∷ []

unfoldable pub pair_row : ℕ → Pair
pair_row i = get_or pairs i (pair 0 I4 (Some 0))

-- the row of the plan for slot i + 1
abbrev pub slot_row : ℕ → Option ℕ
slot_row i = pick (ltb i 5) (Some i) (pick (eqb i 6) (Some 5) None)

-- the slot that a pair is of; behind the last row nothing is allowed, and so of a pair that is not admitted
abbrev pub slot_in : Option ℕ → Slot
slot_in (Some i) = slot_of i
slot_in None = slot_of rows

-- which pair each row of the plan is
abbrev pub admitted : List ℕ
admitted = 0 ∷ 1 ∷ 2 ∷ 3 ∷ 4 ∷ 6 ∷ 15 ∷ 16 ∷ 17 ∷ 18 ∷ 19 ∷ 20 ∷ 21 ∷ 22 ∷ 23 ∷ 24 ∷ 25 ∷ []

unfoldable pub admitted_pair : ℕ → ℕ
admitted_pair i = get_or admitted i 0

-- a pair's count; its length, which is not read where the count is 0
unfoldable pub count_at : List ℕ → Pair → ℕ
count_at r x = number_at r x.byte I6

unfoldable pub length_at : List ℕ → Pair → ℕ
length_at r x = pick (eqb (count_at r x) 0) 0 (number_at r (x.byte + 6) x.form)

-- a pair under its slot's ranges
abbrev pub slot_tests : List ℕ → Pair → Slot → List Test
slot_tests r x s =
    count_tests (at r x.byte I6) (place_of x.byte) s.least s.most
    ++ pick (eqb (count_at r x) 0) []
    (number_tests (at r (x.byte + 6) x.form) (place_of (x.byte + 6)) (last_of (x.byte + 6) x.form) s.shortest s.longest)

unfoldable pub pair_tests : List ℕ → Pair → List Test
pair_tests r x = slot_tests r x (slot_in x.row)

-- ---- the listed fields of a summary or map record: each a value or blank

abbrev pub listed_tests : List ℕ → Listed → List Test
listed_tests r x = readable_test (at r x.first x.form) (place_of x.first) ∷ []

unfoldable pub fields_tests : List ℕ → ℕ → ℕ → List Test
fields_tests r from to = each (listed_tests r) (slice from to table)

-- ---- each record's tests

unfoldable pub leader_tests : List ℕ → List Test
leader_tests r = first_text r ∷ each (pair_tests r) pairs

-- the records of a leader; run 0 is the first record. Those of slots other than 1 and 2 have no rule beyond the header
unfoldable pub leader_record : ℕ → List ℕ → List Test
leader_record run r = pick (eqb run 0) (leader_tests r) (pick (eqb run 1) (fields_tests r 0 10) (pick (eqb run 2) (fields_tests r 10 13) []))

-- ---- the plan's numbers

-- the counts and the lengths of the admitted slots and of the facility pairs
unfoldable pub counts_of : List ℕ → List ℕ
counts_of r = map (λ j. count_at r (pair_row j)) admitted

unfoldable pub lengths_of : List ℕ → List ℕ
lengths_of r = map (λ j. length_at r (pair_row j)) admitted

-- what is found in a descriptor: the plan's counts and lengths that it names, or its first fault
abbrev pub runs_in : List ℕ → Runs
runs_in r = record { counts = counts_of r; lengths = lengths_of r }

unfoldable pub described_of : List ℕ → Result Runs Refusal
described_of r = named_by (first_fault (leader_tests r)) (runs_in r)

-- ---- how the code reads the pairs

-- a pair: its count and length, or its first fault
unfoldable pub pair_of : List ℕ → Pair → Result Held Refusal
pair_of r x = named_by (first_fault (pair_tests r x)) (record { count = count_at r x; length = length_at r x })

-- all of them: the plan's counts and lengths, or the first fault
abbrev pub pairs_of : List ℕ → Result Runs Refusal
pairs_of r = named_by (first_fault (each (pair_tests r) pairs)) (runs_in r)
