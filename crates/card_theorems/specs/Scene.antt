-- The numbers of a scene that its card is to have (document 02, No. 1): the plan's, each line's as its record says them, each leader record's as the plan
-- has it due. No byte of a card occurs here. Assumes nothing.
use Rattle.std.specs.Prelude.{ℕ, zero, suc, List, [], ◌∷◌}
use Rattle.plan.specs.Plan.{leader, due_of, total_of}
use Rattle.plan.specs.declared.Plan.{Plan}
use Rattle.card_theorems.specs.Card.{Fill, Span, Numbers}
use Rattle.promises.specs.Shown.{line_record, left_fill, data_count}

-- left fill and data count of m lines behind k
abbrev pub fills_of : Plan → List ℕ → ℕ → ℕ → List Fill
fills_of p bs zero k = []
fills_of p bs (suc m) k = record { left = left_fill (line_record p (suc k) bs); count = data_count (line_record p (suc k) bs) } ∷ fills_of p bs m (suc k)

-- start and length of m leader records behind k
abbrev pub spans_of : Plan → ℕ → ℕ → List Span
spans_of q zero k = []
spans_of q (suc m) k = record { start = (due_of leader q k).start; long = (due_of leader q k).length } ∷ spans_of q m (suc k)

-- an image with plan p and a leader with plan q
abbrev pub scene_of : Plan → Plan → List ℕ → Numbers
scene_of p q bs =
    record { n = p.n; l = p.l; w = p.w; d = p.d; lines = fills_of p bs p.n 0; leaders = spans_of q (total_of leader q) 0 }
