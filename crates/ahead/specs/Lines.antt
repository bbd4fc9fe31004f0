-- How many lines of an image hold what they must, one after the other: what the code that passes them at once counts. `Turn` knows nothing of it. Assumes
-- nothing.
use Rattle.std.specs.Prelude.{ℕ, zero, suc, ◌+◌, ◌*◌, List, Bool, false, length, take, drop, ltb}
use Rattle.words.specs.Tests.{pick, both_of}
use Rattle.plan.specs.Tables.{sort_of}
use Rattle.plan.specs.Plan.{line_codes}
use Rattle.verdicts.specs.Tests.{all_hold}
use Rattle.image.specs.Image.{line_tests}
use Rattle.headers.specs.Header.{header_tests}

-- a line's four code bytes as one number
abbrev pub codes_number : ℕ → ℕ
codes_number sort = (50 * 256 + (sort_of sort).code) * 65536 + (18 * 256 + 20)

-- whether line k's record, of that sort, begins these bytes, is whole, has room for a line's numbers, and holds what it must
unfoldable pub line_fine : ℕ → ℕ → ℕ → ℕ → List ℕ → Bool
line_fine sort w l k b =
    pick (ltb (length b) l) false
    (pick (ltb l 32) false (both_of (all_hold (header_tests (k + 1) (line_codes sort) l b)) (all_hold (line_tests w k (take l b)))))

-- how many are so from line k on, at most so many
unfoldable pub lines_fine : ℕ → ℕ → ℕ → ℕ → ℕ → List ℕ → ℕ
lines_fine sort w l k zero b = 0
lines_fine sort w l k (suc most) b = pick (line_fine sort w l k b) (suc (lines_fine sort w l (suc k) most (drop l b))) 0
