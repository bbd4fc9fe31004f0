-- The line view of an image prefix held from byte 0 (document 01, "Lines, rows, sets"), in that page's order. Bytes a sample are
-- those of the image's sort (document 02, No. 2), which its first record names. Assumes nothing.
use Rattle.std.specs.Prelude.{ℕ, ◌+◌, ◌-◌, ◌*◌, ◌≤◌, ◌≡◌, List, [], false, ltb, length, take, drop, Result, Ok, Err}
use Rattle.words.specs.Tests.{pick, within_of}
use Rattle.words.specs.Words.{four_at, place_of}
use Rattle.words.specs.Answer.{bare_refusal}
use Rattle.plan.specs.Tables.{sort_of}
use Rattle.plan.specs.Plan.{image, group_of, due_of, run_counts, run_lengths, Small}
use Rattle.plan.specs.declared.Plan.{Plan}
use Rattle.plan.specs.declared.Due.{Due}
use Rattle.verdicts.specs.Tests.{Verdict, and_then}
use Rattle.bodies.specs.Bodies.{body_of}
use Rattle.walk.specs.State.{fresh}
use Rattle.headers.specs.Header.{header_of}
use Rattle.walk.specs.Walk.{walk_of}
use Rattle.turns.specs.declared.Stop.{Stop}
use Rattle.turns.specs.declared.Stop.TheVariants.{Wait as Wait', Pause, Complete, Refused as Refused'}
use Rattle.walk.specs.declared.Walked.{Walked}
use Rattle.lines.specs.declared.Sorted.{Sorted}
use Rattle.lines.specs.declared.Shown.{Shown}
use Rattle.lines.specs.declared.Unshown.{Unshown}
use Rattle.lines.specs.declared.Unshown.TheVariants.{Wait, Refused}

-- what a line view answers: what is shown; or a wait or a refusal, and nothing is
abbrev pub View : Type 0
View = Result Shown Unshown

-- shown: the place of the first data pixel, the data count, the left fill
abbrev pub shown_view : ℕ → ℕ → ℕ → View
shown_view start count left = Ok (record { start = start; count = count; left = left })

-- a line's left fill and data count, as its record says them
abbrev pub left_of : List ℕ → ℕ
left_of r = four_at r (place_of 21)

abbrev pub data_of : List ℕ → ℕ
data_of r = four_at r (place_of 25)

-- pixels start L − s − d bytes into the record
abbrev pub pixels_from : Plan → ℕ
pixels_from p = p.l - p.s - p.d

-- the data pixels skip the left fill, of a group a pixel; also where there are none
unfoldable pub shown_of : Plan → ℕ → List ℕ → View
shown_of p start r = shown_view (start + pixels_from p + group_of p * left_of r) (data_of r) (left_of r)

-- a fault is the refusal of that record; where there is none, what is shown
abbrev pub on_verdict : Verdict → ℕ → ℕ → View → View
on_verdict (Ok u) ordinal start v = v
on_verdict (Err x) ordinal start v = Err (Refused (record { number = x.number; «record» = ordinal; place = start + x.place }))

-- header (3, 4, 5), then body (10), of the record that is due there
unfoldable pub found_in : Plan → ℕ → Due → List ℕ → Verdict
found_in p k x r = and_then (header_of x.ordinal x.codes x.length r) (body_of image x.run p k r)

-- the bytes of the record that is due there
abbrev pub record_at : Due → List ℕ → List ℕ
record_at x bs = take x.length (drop x.start bs)

-- line k, whose record is due there: wait for the bytes still missing to its record's end; then 3, 4, 5, 10
unfoldable pub line_at : Plan → ℕ → Due → List ℕ → View
line_at p k x bs =
    pick (ltb (length bs) (x.start + x.length)) (Err (Wait (x.start + x.length - length bs)))
    (on_verdict (found_in p k x (record_at x bs)) x.ordinal x.start (shown_of p x.start (record_at x bs)))

-- 13; then the line
unfoldable pub line_of : Plan → ℕ → List ℕ → View
line_of p k bs = pick (within_of 1 k p.n) (line_at p k (due_of image p k) bs) (Err (Refused (bare_refusal 13)))

-- the first record's own wait or refusal; where it has passed, what follows
abbrev pub behind_first : Stop → View → View
behind_first (Wait' n) v = Err (Wait n)
behind_first Pause v = v
behind_first Complete v = v
behind_first (Refused' r) v = Err (Refused r)

-- the first record as in the walk, open
abbrev pub first_of : List ℕ → Walked
first_of bs = walk_of 1 (fresh image) bs false

-- the line view: the first record, then the line under the plan that it names
unfoldable pub view_of : List ℕ → ℕ → View
view_of bs k = behind_first (first_of bs).stop (line_of (first_of bs).state.plan k bs)

-- the sort that the first record names; 0 where it has not passed
unfoldable pub sort_seen : List ℕ → ℕ
sort_seen bs = (first_of bs).state.plan.sort

-- the view, and the sort of what it shows
abbrev pub sorted_of : List ℕ → ℕ → Sorted
sorted_of bs k = record { sort = sort_seen bs; view = view_of bs k }

-- the data pixels, of g bytes each, that a view shows of the bytes; none where nothing is shown
abbrev pub shown_bytes : ℕ → View → List ℕ → List ℕ
shown_bytes g (Ok x) bs = take (g * x.count) (drop x.start bs)
shown_bytes g (Err x) bs = []

unfoldable pub pixels_of : List ℕ → ℕ → List ℕ
pixels_of bs k = shown_bytes (sort_of (sort_seen bs)).group (view_of bs k) bs

-- a plan whose lines can be placed: what a good state gives, so that nothing wraps
pub record Lined (p : Plan) : Type 0 where
  pub small : Small (run_counts image p) (run_lengths image p)
  pub lines : p.n ≤ 999999
  pub long : p.l ≤ 99999999
  -- 192, the least that stands ahead of a line's pixels in either sort, is enough here
  pub room : 1 ≤ p.n → 192 + p.d + p.s ≤ p.l
  pub paired : 1 ≤ p.n → p.d ≡ group_of p * p.w

-- what the first record says of every line: the plan that it names has room for its lines, which are shown under it; or none is, for its own wait or refusal
abbrev pub Leads : List ℕ → Result Plan Unshown → Type 0
Leads bs (Ok p) = Lined p × ((k : ℕ) → sorted_of bs k ≡ record { sort = p.sort; view = line_of p k bs })
Leads bs (Err x) = (k : ℕ) → sorted_of bs k ≡ record { sort = 0; view = Err x }
