-- The row copy (document 01, "Lines, rows, sets"; document 02, No. 2: it stays for counts): a line's data pixels as 16-bit numbers, high byte first, to
-- the row's start. Assumes nothing.
use Rattle.std.specs.Prelude.{ℕ, zero, suc, ◌*◌, List, [], ◌∷◌, ◌++◌, ltb, eqb, length, drop, Result, Ok, Err}
use Rattle.words.specs.Tests.{pick}
use Rattle.words.specs.Words.{two_at}
use Rattle.words.specs.Answer.{bare_refusal}
use Rattle.lines.specs.View.{View, view_of, sort_seen, shown_bytes}
use Rattle.lines.specs.declared.Unshown.{Unshown}
use Rattle.lines.specs.declared.Unshown.TheVariants.{Refused}

-- what the row copy answers: how many samples were copied; or a wait or a refusal, and nothing was
abbrev pub Copied : Type 0
Copied = Result ℕ Unshown

-- the samples j, j + 1 and on of those pixels, n of them, most significant byte first
unfoldable pub samples_from : ℕ → ℕ → List ℕ → List ℕ
samples_from j zero px = []
samples_from j (suc n) px = two_at px (2 * j) ∷ samples_from (suc j) n px

abbrev pub samples : ℕ → List ℕ → List ℕ
samples n px = samples_from 0 n px

-- 23 where the samples are no counts; then 15, last: the row is shorter than the line's data pixels
abbrev pub copied_by : View → ℕ → ℕ → Copied
copied_by (Ok x) sort m = pick (eqb sort 0) (pick (ltb m x.count) (Err (Refused (bare_refusal 15))) (Ok x.count)) (Err (Refused (bare_refusal 23)))
copied_by (Err x) sort m = Err x

-- the row's start takes the samples, later samples stay; on a wait or a refusal every sample stays
abbrev pub row_by : View → ℕ → List ℕ → List ℕ → List ℕ
row_by (Ok x) sort bs row =
    pick (eqb sort 0) (pick (ltb (length row) x.count) row (samples x.count (shown_bytes 2 (Ok x) bs) ++ drop x.count row)) row
row_by (Err x) sort bs row = row

-- the answer of the row copy, for a row of m samples
unfoldable pub copied_of : List ℕ → ℕ → ℕ → Copied
copied_of bs k m = copied_by (view_of bs k) (sort_seen bs) m

-- the row behind it
unfoldable pub row_of : List ℕ → ℕ → List ℕ → List ℕ
row_of bs k row = row_by (view_of bs k) (sort_seen bs) bs row
