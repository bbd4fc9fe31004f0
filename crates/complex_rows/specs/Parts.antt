-- The complex row copy (request No. 2): the patterns of a line's samples to the row's start, two numbers a sample. The view is a value here, so that
-- every view may stand for it; a byte past the end of the bytes counts as 0. Its answers are those of the row copy. Assumes nothing.
use Rattle.std.specs.Prelude.{ℕ, zero, suc, ◌+◌, ◌*◌, List, [], ◌∷◌, ◌++◌, ltb, length, drop, Ok, Err}
use Rattle.words.specs.Tests.{pick}
use Rattle.words.specs.Words.{four_at}
use Rattle.words.specs.Answer.{bare_refusal}
use Rattle.samples.specs.Samples.{is_complex}
use Rattle.lines.specs.View.{View, view_of, sort_seen}
use Rattle.lines.specs.declared.Unshown.TheVariants.{Refused}
use Rattle.copies.specs.Row.{Copied}

-- n numbers of four bytes from a place on, high byte first
unfoldable pub fours : List ℕ → ℕ → ℕ → List ℕ
fours bs at zero = []
fours bs at (suc n) = four_at bs at ∷ fours bs (at + 4) n

-- the parts of n samples from a place on: real, then imaginary, of each
unfoldable pub parts : List ℕ → ℕ → ℕ → List ℕ
parts bs at zero = []
parts bs at (suc n) = four_at bs at ∷ four_at bs (at + 4) ∷ parts bs (at + 8) n

-- 23 for counts; then 15, last: the row is shorter than two numbers a sample. The answer counts samples
abbrev pub parts_copied_by : View → ℕ → ℕ → Copied
parts_copied_by (Ok x) sort m =
    pick (is_complex sort) (pick (ltb m (2 * x.count)) (Err (Refused (bare_refusal 15))) (Ok x.count)) (Err (Refused (bare_refusal 23)))
parts_copied_by (Err x) sort m = Err x

-- the row's start takes the parts, later numbers stay; on a wait or a refusal every number stays
abbrev pub parts_row_by : View → ℕ → List ℕ → List ℕ → List ℕ
parts_row_by (Ok x) sort bs row =
    pick (is_complex sort) (pick (ltb (length row) (2 * x.count)) row (parts bs x.start x.count ++ drop (2 * x.count) row)) row
parts_row_by (Err x) sort bs row = row

-- asked of line k of an image prefix held from byte 0: the answer, for a row of m numbers, and the row behind it
unfoldable pub parts_copied : List ℕ → ℕ → ℕ → Copied
parts_copied bs k m = parts_copied_by (view_of bs k) (sort_seen bs) m

unfoldable pub parts_row : List ℕ → ℕ → List ℕ → List ℕ
parts_row bs k row = parts_row_by (view_of bs k) (sort_seen bs) bs row
