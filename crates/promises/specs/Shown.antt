-- What the page shows of an image, and what a directory counts, by the rules alone (document 01, "Lines, rows, sets"): no turn, state, budget or
-- refusal occurs here. Bytes a sample are those of the image's sort. Assumes nothing.
use Rattle.std.specs.Prelude.{ℕ, suc, ◌+◌, ◌-◌, ◌*◌, ◌≤◌, ◌<◌, ◌≡◌, List, [], length, get_or, take, drop}
use Rattle.words.specs.Words.{byte_at, four_at, place_of}
use Rattle.decimal.specs.declared.Form.TheVariants.{I8}
use Rattle.plan.specs.declared.Plan.{Plan}
use Rattle.promises.specs.Rules.{Record, Line, sort_of}
use Rattle.promises.specs.Newest.{Numbered, ImageDescriptor, line_due}

-- ---- lines

-- where line k's record starts: the lines lie end to end behind the first record's 720 bytes
abbrev pub line_start : Plan → ℕ → ℕ
line_start p k = 720 + (k - 1) * p.l

-- its bytes
abbrev pub line_record : Plan → ℕ → List ℕ → List ℕ
line_record p k bs = take p.l (drop (line_start p k) bs)

-- line k is whole in the bytes, as a plan p places it: there is such a line, and its record is whole and meets its rules.
-- Nothing is said of the first record, of other lines, nor of what follows
pub record WholeLine (bs : List ℕ) (k : ℕ) (p : Plan) : Type 0 where
  pub least : 1 ≤ k
  pub most : k ≤ p.n
  pub is : Record (suc k) (line_due p).Codes p.l (line_record p k bs)
  pub holds : Line p.w k (line_record p k bs)

-- line k stands in the bytes: the first record meets its rules and names p, and line k is whole there
pub record Stands (bs : List ℕ) (k : ℕ) (p : Plan) : Type 0 where
  pub first : ImageDescriptor (take 720 bs) p
  pub line : WholeLine bs k p

-- the left fill and the data count that a line's record says
abbrev pub left_fill : List ℕ → ℕ
left_fill r = four_at r (place_of 21)

abbrev pub data_count : List ℕ → ℕ
data_count r = four_at r (place_of 25)

-- pixels start L − s − d bytes into the record
abbrev pub before : Plan → ℕ
before p = p.l - p.s - p.d

-- a place in the file is one of the d bytes of line k's pixels
pub record Pixel (p : Plan) (k at : ℕ) : Type 0 where
  pub from : line_start p k + before p ≤ at
  pub to : at < line_start p k + before p + p.d

-- bytes a sample, by the image's sort
abbrev pub bytes_of : Plan → ℕ
bytes_of p = (sort_of p.sort).group

-- the data pixels skip the left fill: where they start in the file, and their bytes
abbrev pub data_start : Plan → ℕ → List ℕ → ℕ
data_start p k r = line_start p k + before p + bytes_of p * left_fill r

abbrev pub data_pixels : Plan → List ℕ → List ℕ
data_pixels p r = take (bytes_of p * data_count r) (drop (before p + bytes_of p * left_fill r) r)

-- sample j of two-byte pixels, high byte first
abbrev pub sample : List ℕ → ℕ → ℕ
sample px j = 256 * byte_at px (2 * j) + byte_at px (2 * j + 1)

-- the numbers of line k under a plan: the start of its data pixels, its data count, its left fill
abbrev pub LineNumbers : Plan → ℕ → List ℕ → ℕ → ℕ → ℕ → Type 0
LineNumbers p k bs start count left =
    (start ≡ data_start p k (line_record p k bs)) × (count ≡ data_count (line_record p k bs)) × (left ≡ left_fill (line_record p k bs))

-- what a view shows of line k: its numbers under the plan that the first record names
abbrev pub LineShown : List ℕ → ℕ → ℕ → ℕ → ℕ → Type 0
LineShown bs k start count left = (p : Plan) × Stands bs k p × LineNumbers p k bs start count left

-- ---- sets

-- the list is the record counts of a directory's m pointers, in pointer order; rs are the records behind its first
pub record Counts (m : ℕ) (rs : List (List ℕ)) (cs : List ℕ) : Type 0 where
  pub many : length cs ≡ m
  pub each : (i : ℕ) → i < m → Numbered (get_or rs i []) 101 I8 1 99999999 (get_or cs i 0)
