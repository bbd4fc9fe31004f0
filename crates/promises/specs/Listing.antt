-- The listing in whatever pieces its input comes: what the program does, turn by turn, with the bytes held of the next record and the bytes still to
-- come. Assumes nothing.
use Rattle.std.specs.Prelude.{ℕ, zero, suc, ◌≤◌, ◌≡◌, true, false, List, [], ◌∷◌, ◌++◌, length, take, drop, Ok, Err}
use Rattle.words.specs.Tests.{pick}
use Rattle.walk.specs.State.{start_of, next_due}
use Rattle.walk.specs.Walk.{turn_of, next_of}
use Rattle.walk.specs.declared.State.{State}
use Rattle.turns.specs.Turn.{Turn}
use Rattle.turns.specs.declared.Stop.{Stop}
use Rattle.turns.specs.declared.Stop.TheVariants.{Wait, Pause, Complete as Complete', Refused as Refused'}
use Rattle.walk.specs.declared.Walked.{Walked}
use Rattle.listing.specs.Rows.{passed_row, too_long, told_of}
use Rattle.rows.specs.declared.Row.{Row}
use Rattle.rows.specs.declared.Row.TheVariants.{Image, Line, TooLong, Complete, Refused}
use Rattle.words.specs.Words.{four_at, place_of}
use Rattle.plan.specs.declared.Plan.{Plan}
use Rattle.promises.specs.Newest.{ImageDescriptor}
use Rattle.promises.specs.Shown.{WholeLine, line_record, left_fill, data_count}
use Rattle.listing.specs.declared.Say.TheVariants.{Want, Next, Last}

-- from a state, with those bytes held and those still to come, the listing prints these rows
pub data Lists : State → List ℕ → List ℕ → List Row → Type 0 where
  -- more is wanted, and a piece of at most so many bytes comes
  piece : {st : State} {held rest : List ℕ} {rows : List Row} (p : List ℕ) (m : ℕ) → (told_of st held false).say ≡ Want m → length p ≤ m
      → Lists st (held ++ p) rest rows → Lists st held (p ++ rest) rows
  -- more is wanted, and the input has ended: the turn is asked again, closed
  ended : {st : State} {held : List ℕ} {row : Row} (m : ℕ) → (told_of st held false).say ≡ Want m → (told_of st held true).say ≡ Last row
      → Lists st held [] (row ∷ [])
  -- a record has passed: its row is printed, and nothing is held any more
  next : {st : State} {held rest : List ℕ} {rows : List Row} (r : Row) → (told_of st held false).say ≡ Next r
      → Lists (told_of st held false).state [] rest rows → Lists st held rest (r ∷ rows)
  -- the last row
  last : {st : State} {held rest : List ℕ} {row : Row} → (told_of st held false).say ≡ Last row → Lists st held rest (row ∷ [])

-- the last of the rows
abbrev pub closing : List Row → Row
closing [] = TooLong
closing (r ∷ []) = r
closing (r ∷ (s ∷ rs)) = closing (s ∷ rs)

-- the row that closes a listing, by the walk's answer: records and bytes, or the refusal (TooLong stands for answers that a closed walk does not end with)
abbrev pub closing_by : State → Stop → Row
closing_by st Complete' = Complete st.passed (start_of st)
closing_by st (Refused' r) = Refused r
closing_by st (Wait n) = TooLong
closing_by st Pause = TooLong

abbrev pub closing_row : Walked → Row
closing_row w = closing_by w.state w.stop

-- the rows by one turn of the closed walk: the record's row and what follows, or the closing row
abbrev pub rows_by : Turn → State → Row → List Row → List Row
rows_by (Ok u) st r rs = r ∷ rs
rows_by (Err x) st r rs = closing_by st x ∷ []

-- the rows of a whole input, record by record, however it was cut: the row of each record that passes, then the closing row; where L is over 32,768
-- no line is listed
unfoldable pub rows_of : ℕ → State → List ℕ → List Row
rows_of zero st bs = []
rows_of (suc n) st bs =
    pick (too_long st) (TooLong ∷ [])
    (rows_by (turn_of st bs true) st (passed_row st (take (next_due st).length bs) (next_of st bs)) (rows_of n (next_of st bs) (drop (next_due st).length bs)))

-- the row of line k as its record says it: number, left fill, data count, right fill
abbrev pub line_row : Plan → ℕ → List ℕ → Row
line_row p k bs = Line k (left_fill (line_record p k bs)) (data_count (line_record p k bs)) (four_at (line_record p k bs) (place_of 29))

-- the rows of c lines, from line k on
abbrev pub line_rows : Plan → ℕ → ℕ → List ℕ → List Row
line_rows p k zero bs = []
line_rows p k (suc c) bs = line_row p k bs ∷ line_rows p (suc k) c bs

-- what is listed of these bytes: one row alone; or the first record meets its rules, and there follow its row, the rows of the first c lines in their
-- order, each of which is whole there and meets its rules, and the last row
pub data Named (bs : List ℕ) : List Row → Type 0 where
  alone : (row : Row) → Named bs (row ∷ [])
  lines : (p : Plan) (c : ℕ) (row : Row) → ImageDescriptor (take 720 bs) p → ((k : ℕ) → 1 ≤ k → k ≤ c → WholeLine bs k p)
      → Named bs (Image p.n p.w ∷ (line_rows p 1 c bs ++ (row ∷ [])))
