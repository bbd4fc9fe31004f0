-- What a plan promises, over (kind, plan, k): the runs of equal records, the planned total, the record that is due, and which plans the
-- rules allow. Records count from 0 here: record 0 is the first. Assumes nothing.
use Rattle.std.specs.Prelude.{ℕ, zero, suc, ◌+◌, ◌-◌, ◌*◌, ◌≤◌, ◌<◌, List, [], ◌∷◌, Bool, true, get_or, replicate, ltb, leb, eqb}
use Rattle.words.specs.Tests.{pick, both_of, within_of}
use Rattle.plan.specs.Tables.{rows, codes, slot_of, other_codes, sort_of, last_sort}
use Rattle.plan.specs.declared.Plan.{Plan}
use Rattle.plan.specs.declared.Spot.{Spot}
use Rattle.plan.specs.declared.Codes.{Codes}
use Rattle.plan.specs.declared.Due.{Due}

-- the four kinds
abbrev pub volume : ℕ
volume = 1

abbrev pub leader : ℕ
leader = 2

abbrev pub image : ℕ
image = 3

abbrev pub trailer : ℕ
trailer = 4

-- all zeros: the plan of a state that has passed nothing, and a trailer's
abbrev pub zero_plan : Plan
zero_plan = record { pointers = 0; counts = replicate rows 0; lengths = replicate rows 0; n = 0; l = 0; w = 0; d = 0; s = 0; sort = 0 }

-- an image's bytes a group, and the least bytes that go ahead of its pixels, by its sort
abbrev pub group_of : Plan → ℕ
group_of p = (sort_of p.sort).group

abbrev pub ahead_of : Plan → ℕ
ahead_of p = (sort_of p.sort).ahead

-- how many records each run has: pointers and one text; the leader's slots and facility pairs; lines
unfoldable pub run_counts : ℕ → Plan → List ℕ
run_counts kind p =
    pick (eqb kind volume) (p.pointers ∷ 1 ∷ replicate 15 0)
    (pick (eqb kind leader) p.counts (pick (eqb kind image) (p.n ∷ replicate 16 0) (replicate rows 0)))

-- how long the records of each run are
unfoldable pub run_lengths : ℕ → Plan → List ℕ
run_lengths kind p =
    pick (eqb kind volume) (360 ∷ 360 ∷ replicate 15 0)
    (pick (eqb kind leader) p.lengths (pick (eqb kind image) (p.l ∷ replicate 16 0) (replicate rows 0)))

-- the first record's length
unfoldable pub first_length : ℕ → ℕ
first_length kind = pick (eqb kind volume) 360 720

unfoldable pub sum_of : List ℕ → ℕ
sum_of [] = 0
sum_of (x ∷ xs) = x + sum_of xs

-- how many records are planned, the first among them
unfoldable pub total_of : ℕ → Plan → ℕ
total_of kind p = 1 + sum_of (run_counts kind p)

-- where record k of the runs from run i on stands, the first of which starts at `at`; behind them all, their end
unfoldable pub spot_from : ℕ → List ℕ → List ℕ → ℕ → ℕ → Spot
spot_from i [] ls k at = record { run = i; length = 0; start = at }
spot_from i (c ∷ cs) [] k at = record { run = i; length = 0; start = at }
spot_from i (c ∷ cs) (l ∷ ls) k at =
    pick (ltb k c) (record { run = i; length = l; start = at + k * l }) (spot_from (i + 1) cs ls (k - c) (at + c * l))

-- where record k stands: the first record is run 0 at the file's start
unfoldable pub spot_of : ℕ → Plan → ℕ → Spot
spot_of kind p zero = record { run = 0; length = first_length kind; start = 0 }
spot_of kind p (suc k) = spot_from 1 (run_counts kind p) (run_lengths kind p) k (first_length kind)

-- the code bytes of a first record
unfoldable pub first_codes : ℕ → Codes
first_codes kind = other_codes (kind - 1)

-- the code bytes of a line, by the image's sort
abbrev pub line_codes : ℕ → Codes
line_codes sort = codes 50 (sort_of sort).code 18 20

-- the code bytes of a record of a run: a slot's are 18, x, 18, 20, a facility pair's 18, 200, 18 and any fourth byte, a line's by the image's sort
unfoldable pub codes_of : ℕ → Plan → ℕ → Codes
codes_of kind p zero = first_codes kind
codes_of kind p (suc i) =
    pick (eqb kind leader)
    (record { one = 18; two = (slot_of i).code; three = 18; four = 20; free = (slot_of i).free })
    (pick (eqb kind volume) (other_codes (4 + i)) (line_codes p.sort))

-- the record that is due behind k others: its ordinal, its run, its codes, its length and its start in the file
abbrev pub due_of : ℕ → Plan → ℕ → Due
due_of kind p k =
    record {
      ordinal = k + 1;
      run = (spot_of kind p k).run;
      codes = codes_of kind p (spot_of kind p k).run;
      length = (spot_of kind p k).length;
      start = (spot_of kind p k).start;
    }

-- ---- the plans that the rules allow

unfoldable pub all_zero : List ℕ → Bool
all_zero [] = true
all_zero (x ∷ xs) = both_of (eqb x 0) (all_zero xs)

-- the numbers that only a leader, and only an image, has
abbrev pub slots_zero? : Plan → Bool
slots_zero? p = both_of (all_zero p.counts) (all_zero p.lengths)

abbrev pub image_zero? : Plan → Bool
image_zero? p =
    both_of (eqb p.n 0) (both_of (eqb p.l 0) (both_of (eqb p.w 0) (both_of (eqb p.d 0) (both_of (eqb p.s 0) (eqb p.sort 0)))))

unfoldable pub zero_plan? : Plan → Bool
zero_plan? p = both_of (eqb p.pointers 0) (both_of (slots_zero? p) (image_zero? p))

-- count and length of a slot: both in range, and the length 0 where the count is
abbrev pub slot_good : ℕ → ℕ → ℕ → Bool
slot_good i count length =
    both_of (within_of (slot_of i).least count (slot_of i).most)
    (pick (eqb count 0) (eqb length 0) (within_of (slot_of i).shortest length (slot_of i).longest))

-- m slots from slot i on
unfoldable pub slots_good : ℕ → ℕ → List ℕ → List ℕ → Bool
slots_good i zero cs ls = true
slots_good i (suc m) cs ls = both_of (slot_good i (get_or cs i 0) (get_or ls i 0)) (slots_good (i + 1) m cs ls)

unfoldable pub volume_good : Plan → Bool
volume_good p = both_of (within_of 3 p.pointers 6) (both_of (slots_zero? p) (image_zero? p))

unfoldable pub leader_good : Plan → Bool
leader_good p = both_of (eqb p.pointers 0) (both_of (slots_good 0 rows p.counts p.lengths) (image_zero? p))

-- an image's ranges; and its agreements: d is a group for each pixel, and what goes before, the data and the suffix fit L
abbrev pub image_ranges : Plan → Bool
image_ranges p =
    both_of (within_of 1 p.n 999999)
    (both_of (within_of 1 p.l 999999) (both_of (within_of 1 p.w 99999999)
    (both_of (within_of 1 p.d 99999999) (both_of (within_of 0 p.s 9999) (within_of 0 p.sort last_sort)))))

abbrev pub image_agrees : Plan → Bool
image_agrees p = both_of (eqb p.d (group_of p * p.w)) (leb (ahead_of p + p.d + p.s) p.l)

unfoldable pub image_good : Plan → Bool
image_good p = both_of (both_of (eqb p.pointers 0) (slots_zero? p)) (both_of (image_ranges p) (image_agrees p))

-- the plans that a first record of the kind can name
unfoldable pub plan_good : ℕ → Plan → Bool
plan_good kind p =
    pick (eqb kind volume) (volume_good p)
    (pick (eqb kind leader) (leader_good p) (pick (eqb kind image) (image_good p) (both_of (eqb kind trailer) (zero_plan? p))))

-- runs small enough that no place in the file passes 64 bits
pub record Small (cs ls : List ℕ) : Type 0 where
  pub few : (i : ℕ) → i < rows → get_or cs i 0 ≤ 999999
  pub short : (i : ℕ) → i < rows → get_or ls i 0 ≤ 99999999
  pub area : (i : ℕ) → i < rows → get_or cs i 0 * get_or ls i 0 ≤ 999998000001

-- no plan whose runs are small promises more records than these and the first
abbrev pub records_most : ℕ
records_most = 1000000 * rows

-- a spot whose numbers leave room for a place in its record
pub record Spotted (x : Spot) : Type 0 where
  pub run : x.run ≤ rows + 1
  pub length : x.length ≤ 99999999
  pub start : x.start ≤ 20000000000000

-- a record that is due, whose numbers leave room for a place in it
pub record Placed (x : Due) : Type 0 where
  pub ordinal : x.ordinal ≤ records_most + 2
  pub length : x.length ≤ 99999999
  pub start : x.start ≤ 20000000000000
