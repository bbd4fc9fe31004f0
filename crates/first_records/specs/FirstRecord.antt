-- A first record written from a plan's numbers: each number as so many digits, zeros in front, in the columns that document 01 gives it. Assumes nothing.
use Rattle.std.specs.Prelude.{ℕ, zero, suc, ◌+◌, ◌/◌, ◌%◌, List, [], ◌∷◌, ◌++◌, get_or, drop, replicate}
use Rattle.decimal.specs.Text.{bytes}
use Rattle.plan.specs.declared.Plan.{Plan}
use Rattle.promises.specs.Rules.{Kind, volume, leader, image, trailer, sort_of, concat}
use Rattle.promises.specs.Witness.{blanks, trailer_parts, first_of}

-- a number in that many columns, a digit each
unfoldable pub columns : ℕ → ℕ → List ℕ
columns zero n = []
columns (suc w) n = columns w (n / 10) ++ ((48 + n % 10) ∷ [])

-- the pointer count
unfoldable pub volume_written : Plan → List (List ℕ)
volume_written p = bytes "A " ∷ blanks 146 ∷ columns 4 p.pointers ∷ blanks 196 ∷ []

-- pairs of a count in 6 columns and a length in w
unfoldable pub pairs_written : ℕ → List ℕ → List ℕ → List (List ℕ)
pairs_written w [] ls = []
pairs_written w (c ∷ cs) [] = []
pairs_written w (c ∷ cs) (l ∷ ls) = columns 6 c ∷ columns w l ∷ pairs_written w cs ls

-- the numbers of the fifteen slots, of which the plan has 1 to 5 and 7
unfoldable pub fifteen : List ℕ → List ℕ
fifteen xs = get_or xs 0 0 ∷ get_or xs 1 0 ∷ get_or xs 2 0 ∷ get_or xs 3 0 ∷ get_or xs 4 0 ∷ 0 ∷ get_or xs 5 0 ∷ replicate 8 0

-- and of the eleven facility pairs
abbrev pub eleven : List ℕ → List ℕ
eleven xs = drop 6 xs

-- the pairs of fifteen slots from byte 181 on and of eleven facilities from byte 421 on
unfoldable pub leader_written : Plan → List (List ℕ)
leader_written p =
    bytes "A "
    ∷ blanks 166
    ∷ concat (pairs_written 6 (fifteen p.counts) (fifteen p.lengths))
    ∷ blanks 60
    ∷ concat (pairs_written 8 (eleven p.counts) (eleven p.lengths))
    ∷ blanks 146
    ∷ []

-- an image's numbers, and of its sort the bytes a group and the text
unfoldable pub image_written : ℕ → List ℕ → Plan → List (List ℕ)
image_written group text p =
    bytes "A "
    ∷ blanks 166
    ∷ columns 6 p.n
    ∷ columns 6 p.l
    ∷ blanks 32
    ∷ columns 4 group
    ∷ blanks 4
    ∷ columns 4 1
    ∷ columns 8 p.n
    ∷ blanks 4
    ∷ columns 8 p.w
    ∷ blanks 24
    ∷ columns 8 p.d
    ∷ columns 4 p.s
    ∷ blanks 136
    ∷ text
    ∷ blanks 288
    ∷ []

-- the first record of a kind that names the plan
unfoldable pub record_of : Kind → Plan → List ℕ
record_of volume p = first_of 1 (volume_written p)
record_of leader p = first_of 2 (leader_written p)
record_of image p = first_of 3 (image_written (sort_of p.sort).group (bytes (sort_of p.sort).text) p)
record_of trailer p = first_of 4 trailer_parts
