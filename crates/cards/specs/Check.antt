-- How the reader judges a card (document 02, No. 1), entry by entry from the front, and the list of numbers that it gives. What a card is stands in
-- `card_theorems/specs/Card.antt`, and the theorems there show that the two agree. Assumes nothing.
use Rattle.std.specs.Prelude.{ℕ, zero, suc, ◌+◌, ◌*◌, ◌≤◌, ◌≡◌, List, [], ◌∷◌, ◌++◌, Bool, eqb, leb, ltb, length, drop, replicate, Result, Ok, Err}
use Rattle.words.specs.Tests.{pick, both_of}
use Rattle.words.specs.Words.{byte_at, four_at}
use Rattle.words.specs.Answer.{refusal_at, bare_refusal}
use Rattle.words.specs.declared.Refusal.{Refusal}
use Rattle.writing.specs.Writing.{written}
use Rattle.plan.specs.Tables.{rows, sort_of}
use Rattle.plan.specs.Plan.{image, plan_good}
use Rattle.plan.specs.declared.Plan.{Plan}
use Rattle.entry.specs.Entry.{kind_of, whole_of}
use Rattle.cards.specs.declared.Card.{Card}

-- a card; or what is first wrong
abbrev pub Checked : Type 0
Checked = Result Card Refusal

-- a card with so many lines and leader entries
abbrev pub carded : ℕ → ℕ → Checked
carded n k = Ok (record { lines = n; entries = k })

-- how long a body of that kind is; 0 where there is no such kind
unfoldable pub body_of : ℕ → ℕ
body_of kind = pick (eqb kind 1) 16 (pick (eqb kind 2) 12 (pick (eqb kind 3) 9 0))

-- what is wrong with the entry that begins these bytes, where one of that kind is due whose body passes its test
unfoldable pub fault_of : ℕ → Bool → List ℕ → Result (Unit {0}) ℕ
fault_of want holds r =
    pick (eqb (length r) 0) (Err 21)
    (pick (eqb (body_of (kind_of r)) 0) (Err 20)
    (pick (whole_of (body_of (kind_of r)) r) (pick (both_of (eqb (kind_of r) want) holds) (Ok tt) (Err 22)) (Err 21)))

-- the fault is refused at the entry's start; without one the judging goes on
abbrev pub judged : {A : Type 0} → Result (Unit {0}) ℕ → ℕ → Result A Refusal → Result A Refusal
judged (Ok u) at on = on
judged (Err m) at on = Err (refusal_at m at)

-- ---- the tests of the bodies

-- the sort of an image of w pixels in d bytes: complex where d is 8w (document 02, No. 2), else counts
abbrev pub sort_by : ℕ → ℕ → ℕ
sort_by w d = pick (eqb d ((sort_of 1).group * w)) 1 0

-- kind 1: an image's first record can name these numbers, with s as 0
abbrev pub plan_from : List ℕ → Plan
plan_from r =
    record {
      pointers = 0;
      counts = replicate rows 0;
      lengths = replicate rows 0;
      n = four_at r 1;
      l = four_at r 5;
      w = four_at r 9;
      d = four_at r 13;
      s = 0;
      sort = sort_by (four_at r 9) (four_at r 13);
    }

unfoldable pub first_holds : List ℕ → Bool
first_holds r = plan_good image (plan_from r)

-- kind 2: the line's number, and left plus data at most w
unfoldable pub line_holds : ℕ → ℕ → List ℕ → Bool
line_holds k w r = both_of (eqb (four_at r 1) k) (leb (four_at r 5 + four_at r 9) w)

-- kind 3: the ordinal, and the sum of the lengths before
unfoldable pub leader_holds : ℕ → ℕ → List ℕ → Bool
leader_holds k sum r = both_of (eqb (byte_at r 1) k) (eqb (four_at r 2) sum)

-- ---- the card

-- m lines more behind k, at that place of the card
unfoldable pub lines_of : ℕ → ℕ → ℕ → ℕ → List ℕ → Result (Unit {0}) Refusal
lines_of zero k w at r = Ok tt
lines_of (suc m) k w at r = judged (fault_of 2 (line_holds (suc k) w r) r) at (lines_of m (suc k) w (at + 13) (drop 13 r))

-- leader entries to the card's end behind k whose lengths add up to a sum; the first number bounds the turns, and as many as there are bytes are enough
unfoldable pub leaders_of : ℕ → ℕ → ℕ → ℕ → ℕ → List ℕ → Checked
leaders_of zero n k sum at r = carded n k
leaders_of (suc m) n k sum at r =
    pick (eqb (length r) 0) (carded n k)
    (judged (fault_of 3 (leader_holds (suc k) sum r) r) at (leaders_of m n (suc k) (sum + four_at r 6) (at + 10) (drop 10 r)))

-- what follows is judged where the lines are right
abbrev pub behind_lines : Result (Unit {0}) Refusal → Checked → Checked
behind_lines (Ok u) on = on
behind_lines (Err r) on = Err r

-- behind kind 1: the lines, the leader entries
abbrev pub check_behind : List ℕ → Checked
check_behind bs =
    behind_lines (lines_of (four_at bs 1) 0 (four_at bs 9) 17 (drop 17 bs))
    (leaders_of (length bs) (four_at bs 1) 0 0 (17 + 13 * four_at bs 1) (drop (17 + 13 * four_at bs 1) bs))

-- the card
unfoldable pub check_of : List ℕ → Checked
check_of bs = judged (fault_of 1 (first_holds bs) bs) 0 (check_behind bs)

-- a card has no more lines than that, and its leader entries' ordinals are one byte
abbrev pub Few : ℕ → Checked → Type 0
Few most x = (c : Card) → x ≡ Ok c → (c.lines ≤ most) × (c.entries ≤ 255)

-- ---- its numbers

-- m pairs of numbers that stand a step apart, from a place on
unfoldable pub pairs_from : ℕ → ℕ → ℕ → List ℕ → List ℕ
pairs_from zero at step bs = []
pairs_from (suc m) at step bs = four_at bs at ∷ four_at bs (at + 4) ∷ pairs_from m (at + step) step bs

-- the numbers of a card of n lines and k leader entries: n, L, w, d, then left and data of each line, then start and length of each leader entry
unfoldable pub flat_of : ℕ → ℕ → List ℕ → List ℕ
flat_of n k bs = pairs_from 2 1 8 bs ++ (pairs_from n 22 13 bs ++ pairs_from k (19 + 13 * n) 10 bs)

-- how many these are
abbrev pub many_of : ℕ → ℕ → ℕ
many_of n k = 4 + 2 * n + 2 * k

-- the answer, for a list of m numbers: 37 last, where the list is too short
abbrev pub numbers_by : Checked → ℕ → Checked
numbers_by (Ok c) m = pick (ltb m (many_of c.lines c.entries)) (Err (bare_refusal 37)) (Ok c)
numbers_by (Err r) m = Err r

unfoldable pub numbers_of : List ℕ → ℕ → Checked
numbers_of bs m = numbers_by (check_of bs) m

-- the list behind it: the numbers, and those past them stay; on a refusal all stay
abbrev pub list_by : Checked → List ℕ → List ℕ → List ℕ
list_by (Ok c) bs out = pick (ltb (length out) (many_of c.lines c.entries)) out (written out 0 (flat_of c.lines c.entries bs))
list_by (Err r) bs out = out

unfoldable pub list_of : List ℕ → List ℕ → List ℕ
list_of bs out = list_by (check_of bs) bs out
