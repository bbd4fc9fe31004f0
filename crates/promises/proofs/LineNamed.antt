-- For any bytes a line is shown exactly where the rules say that it stands there, and then exactly its data pixels: each test of the view is a rule's
-- line, for every sort of image.
use Prim.Native.Nat.{ℕ, zero, suc, ◌+◌, ◌-◌, ◌*◌, ◌≤◌}
use mathlib.Core.Path.{◌≡◌, refl, sym, ap, ◌∙◌, subst}
use mathlib.Core.List.{List, [], ◌∷◌, ◌++◌}
use mathlib.Core.Logic.{◌↔◌}
use mathlib.Core.Bool.{false}
use native.Mathlib.Numerals.{add-one}
use native.Mathlib.Omega.{arith}
use lib.ListN.{length, take, drop, length-drop, take-append-drop}
use lib.Seq.{length-take-le, take-append-le, drop-append-le, drop-drop}
use Rattle.std.specs.Prelude.{Ok}
use Rattle.words.specs.Words.{two_at, four_at, place_of}
use Rattle.words.proofs.Laws.{within_true, true_within}
use Rattle.plan.specs.Plan.{image as image', first_length, line_codes, due_of}
use Rattle.plan.specs.Tables.{codes, sort_of as sort_of'}
use Rattle.plan.specs.declared.Plan.{Plan}
use Rattle.plan.specs.declared.Due.{Due}
use Rattle.bodies.specs.Bodies.{body_of}
use Rattle.walk.specs.State.{fresh}
use Rattle.headers.specs.Header.{header_of}
use Rattle.walk.specs.Walk.{next_of}
use Rattle.turns.specs.declared.Stop.{Stop}
use Rattle.turns.specs.declared.Stop.TheVariants.{Wait as Wait', Pause, Complete, Refused as Refused'}
use Rattle.walk.specs.declared.Walked.{Walked}
use Rattle.lines.specs.View.{line_of, behind_first, first_of, view_of, sort_seen, shown_bytes, pixels_of, View, shown_view}
use Rattle.lines.proofs.ViewLaws.{Seen, line_seen, seen_line, view_line, wait≢shown, refused≢shown}
use Rattle.plan.proofs.CodeLaws.{line_due_lem}
use Rattle.lines.proofs.InsideLaws.{found_parts, parts_found, data_fits}
use Rattle.promises.specs.Rules.{image, Record, Line, Coded, Is, sort_of}
use Rattle.promises.specs.Newest.{ImageDescriptor, line_due}
use Rattle.promises.specs.Shown.{line_start, line_record, WholeLine, Stands, left_fill, data_count, before, bytes_of, data_start, data_pixels, LineNumbers}
use Rattle.promises.specs.Shown.{LineShown}
use Rattle.promises.proofs.BodyIs.{body_is}
use Rattle.promises.proofs.Counted.{open_never_complete, pause_counted}
use Rattle.promises.proofs.AnyEdition.{Same}
use Rattle.promises.proofs.FirstPasses.{taken_long, first_step, first_same}
use Rattle.promises.proofs.Parts.{header_four}
use Rattle.promises.proofs.PlanNamed.{plan_named}
use Rattle.promises.proofs.Sorts.{group_same, code_same}

-- line k's record as it is due
abbrev pub line_as : Plan → ℕ → Due
line_as p k = record { ordinal = k + 1; run = 1; codes = line_codes p.sort; length = p.l; start = line_start p k }

pub as_due : (p : Plan) (k : ℕ) → 1 ≤ k → k ≤ p.n → due_of image' p k ≡ line_as p k
as_due p zero a b = absurd (omega arith)
as_due p (suc j) a b =
    line_due_lem p j (omega arith)
    ∙ ap (λ (i : ℕ). record { ordinal = suc j + 1; run = 1; codes = line_codes p.sort; length = p.l; start = 720 + i * p.l })
    (let e : j ≡ suc j - 1 = omega arith in e)

-- ---- under a plan: a line is shown exactly where it is whole

-- a record with a number has a byte
some_bytes : (r : List ℕ) (o : ℕ) → four_at r (place_of 1) ≡ suc o → 1 ≤ length r
unfolding four_at two_at place_of
some_bytes [] o e = absurd (omega arith)
some_bytes (x ∷ r) o e = omega arith

-- whole: as many bytes are held as the record has
whole_held : (bs : List ℕ) (k : ℕ) (p : Plan) → WholeLine bs k p → line_start p k + p.l ≤ length bs
whole_held bs k p t =
    let a = taken_long p.l (drop (line_start p k) bs) t.is.size in
    let b = some_bytes (line_record p k bs) k t.is.sequence in
    let c = t.is.size in
    omega (arith, length-drop (line_start p k) bs)

module _ (p : Plan) (k : ℕ) (bs : List ℕ) where
  pub line_size : line_start p k + p.l ≤ length bs → length (line_record p k bs) ≡ p.l
  line_size h = length-take-le p.l (drop (line_start p k) bs) (omega (arith, length-drop (line_start p k) bs))

  pub line_header : length (line_record p k bs) ≡ p.l
      → (header_of (k + 1) (line_codes p.sort) p.l (line_record p k bs) ≡ Ok tt) ↔ Record (suc k) (line_due p).Codes p.l (line_record p k bs)
  line_header size =
      subst (λ (o : ℕ). (header_of o (line_codes p.sort) p.l (line_record p k bs) ≡ Ok tt) ↔ Record (suc k) (line_due p).Codes p.l (line_record p k bs))
      (sym (add-one k))
      (subst (λ (x : ℕ). (header_of (suc k) (codes 50 x 18 20) p.l (line_record p k bs) ≡ Ok tt) ↔ Record (suc k) (line_due p).Codes p.l (line_record p k bs))
      (sym (code_same p.sort)) (header_four (suc k) 50 (sort_of p.sort).code 18 20 p.l (line_record p k bs) size))

  pub line_body_lem : (body_of image' 1 p k (line_record p k bs) ≡ Ok tt) ↔ Line p.w k (line_record p k bs)
  line_body_lem = body_is image p 1 k (line_record p k bs) tt

  seen_whole : (start count left : ℕ) → Seen p k (line_as p k) bs start count left → WholeLine bs k p
  seen_whole start count left q =
      let h = within_true 1 k p.n q.inside in
      let f = found_parts p k (line_as p k) (line_record p k bs) q.fine in
      record { least = h.0; most = h.1; is = (line_header (line_size q.whole)).0 f.0; holds = line_body_lem.0 f.1 }

  whole_seen : WholeLine bs k p
      → Seen p k (line_as p k) bs (data_start p k (line_record p k bs)) (data_count (line_record p k bs)) (left_fill (line_record p k bs))
  whole_seen t =
      record {
        inside = true_within 1 k p.n t.least t.most;
        whole = whole_held bs k p t;
        fine = parts_found p k (line_as p k) (line_record p k bs) ((line_header t.is.size).1 t.is) (line_body_lem.1 t.holds);
        starts = ap (λ (i : ℕ). line_start p k + before p + i * left_fill (line_record p k bs)) (sym (group_same p.sort));
        counts = refl;
        lefts = refl;
      }

  -- what is shown of a line that is whole
  whole_shown : WholeLine bs k p
      → line_of p k bs ≡ shown_view (data_start p k (line_record p k bs)) (data_count (line_record p k bs)) (left_fill (line_record p k bs))
  whole_shown t =
      seen_line p k bs _ _ _
      (subst (λ (s : Due). Seen p k s bs (data_start p k (line_record p k bs)) (data_count (line_record p k bs)) (left_fill (line_record p k bs)))
      (sym (as_due p k t.least t.most)) (whole_seen t))

  shown_whole : (start count left : ℕ) → line_of p k bs ≡ shown_view start count left → WholeLine bs k p × LineNumbers p k bs start count left
  shown_whole start count left e =
      let q = line_seen p k bs start count left e in
      let h = within_true 1 k p.n q.inside in
      let t : Seen p k (line_as p k) bs start count left = subst (λ (s : Due). Seen p k s bs start count left) (as_due p k h.0 h.1) q in (
        seen_whole start count left t,
        (t.starts ∙ ap (λ (i : ℕ). line_start p k + before p + i * left_fill (line_record p k bs)) (group_same p.sort), t.counts, t.lefts),
      )

-- for any plan and any bytes: a line is shown exactly where it is whole, with the numbers that the rules give it
pub line_under : (p : Plan) (k : ℕ) (bs : List ℕ) (start count left : ℕ)
    → (line_of p k bs ≡ shown_view start count left) ↔ (WholeLine bs k p × LineNumbers p k bs start count left)
line_under p k bs start count left = (shown_whole p k bs start count left, back)
  where
    back : WholeLine bs k p × LineNumbers p k bs start count left → line_of p k bs ≡ shown_view start count left
    back (t, (a, b, c)) = whole_shown p k bs t ∙ rw (a, b, c)

-- ---- a shown line stands there

-- the first record has passed
pub shown_first : (bs : List ℕ) (k start count left : ℕ) → view_of bs k ≡ shown_view start count left → (first_of bs).stop ≡ Pause
unfolding view_of
shown_first bs k start count left e = go (first_of bs).stop refl e
  where
    go : (x : Stop) → (first_of bs).stop ≡ x → behind_first x (line_of (first_of bs).state.plan k bs) ≡ shown_view start count left → (first_of bs).stop ≡ Pause
    go (Wait' n) q e = absurd (wait≢shown _ _ _ _ e)
    go Pause q e = q
    go Complete q e = absurd (open_never_complete 1 (fresh image') bs q)
    go (Refused' r) q e = absurd (refused≢shown _ _ _ _ e)

pub first_there : (bs : List ℕ) → (first_of bs).stop ≡ Pause → ImageDescriptor (take 720 bs) (first_of bs).state.plan
unfolding first_length
first_there bs e = plan_named image bs false 1 (λ z. let m = pause_counted 1 (fresh image') bs false e in omega arith)

shown_to : (bs : List ℕ) (k start count left : ℕ) → view_of bs k ≡ shown_view start count left → LineShown bs k start count left
shown_to bs k start count left e =
    let p = (first_of bs).state.plan in
    let (t, a) = (line_under p k bs start count left).0 (view_line bs k start count left e) in
    (p, record { first = first_there bs (shown_first bs k start count left e); line = t }, a)

-- ---- and back: a line that stands there is shown

-- plans with the same numbers have the same lines
module _ (bs : List ℕ) (k : ℕ) (p q : Plan) (same : Same image p q) where
  same_start : line_start p k ≡ line_start q k
  same_start = ap (λ (l : ℕ). 720 + (k - 1) * l) same.1

  same_record : line_record p k bs ≡ line_record q k bs
  same_record = ap (λ (l : ℕ). take l (drop (720 + (k - 1) * l) bs)) same.1

  same_before : before p ≡ before q
  same_before = let a = same.1 in let b = same.3 in let c = same.4 in omega arith

  same_whole : WholeLine bs k q → WholeLine bs k p
  same_whole t =
      let r = sym same_record in
      record {
        least = t.least;
        most = let h = t.most in let e = same.0 in omega arith;
        is = subst (λ (i : ℕ). Record (suc k) (Coded 50 (sort_of i).code 18 (Is 20)) p.l (line_record p k bs)) (sym same.5)
            (subst (λ (l : ℕ). Record (suc k) (line_due q).Codes l (line_record p k bs)) (sym same.1)
            (subst (Record (suc k) (line_due q).Codes q.l) r t.is));
        holds = subst (λ (w : ℕ). Line w k (line_record p k bs)) (sym same.2) (subst (Line q.w k) r t.holds);
      }

  same_shown : shown_view (data_start p k (line_record p k bs)) (data_count (line_record p k bs)) (left_fill (line_record p k bs))
      ≡ shown_view (data_start q k (line_record q k bs)) (data_count (line_record q k bs)) (left_fill (line_record q k bs))
  same_shown = rw (same_record, same_start, same_before, same.5)

pub stands_shown : (bs : List ℕ) (k : ℕ) (q : Plan) → Stands bs k q
    → view_of bs k ≡ shown_view (data_start q k (line_record q k bs)) (data_count (line_record q k bs)) (left_fill (line_record q k bs))
unfolding view_of first_length
stands_shown bs k q t =
    let p = (next_of (fresh image') bs).plan in
    let same : Same image p q = first_same image bs q t.first in
    ap (λ (w : Walked). behind_first w.stop (line_of w.state.plan k bs)) (first_step image bs q t.first false)
    ∙ whole_shown p k bs (same_whole bs k p q same t.line)
    ∙ same_shown bs k p q same

-- for any bytes: a line is shown exactly where it stands there, with the numbers that the rules give it
pub line_named : (bs : List ℕ) (k start count left : ℕ) → (view_of bs k ≡ shown_view start count left) ↔ LineShown bs k start count left
line_named bs k start count left = (shown_to bs k start count left, back)
  where
    back : LineShown bs k start count left → view_of bs k ≡ shown_view start count left
    back (p, t, (a, b, c)) = stands_shown bs k p t ∙ rw (a, b, c)

-- ---- and then exactly its data pixels are handed out

-- a part of a part that reaches no further
pub part_of : (S L x m : ℕ) (bs : List ℕ) → L ≤ length (drop S bs) → x + m ≤ L → take m (drop x (take L (drop S bs))) ≡ take m (drop (S + x) bs)
part_of S L x m bs h k =
    let ys = drop S bs in
    let size = length-take-le L ys h in
    let e : drop x ys ≡ drop x (take L ys) ++ drop L ys =
    ap (drop x) (sym (take-append-drop L ys)) ∙ drop-append-le x (take L ys) (drop L ys) (omega arith) in
    sym (ap (take m) (sym (drop-drop x S bs) ∙ e) ∙ take-append-le m (drop x (take L ys)) (drop L ys) (omega (arith, length-drop x (take L ys))))

-- under any plan whose pixels fill d, where d and the suffix fit L
module _ (bs : List ℕ) (k : ℕ) (p : Plan) (paired : p.d ≡ bytes_of p * p.w) (room : p.d + p.s ≤ p.l) (t : WholeLine bs k p) where
  -- the data pixels of a line that is whole lie in its record, before the suffix
  pub line_fits : before p + bytes_of p * left_fill (line_record p k bs) + bytes_of p * data_count (line_record p k bs) ≤ p.l - p.s
  line_fits =
      data_fits (bytes_of p) p (left_fill (line_record p k bs)) (data_count (line_record p k bs)) (four_at (line_record p k bs) (place_of 29)) paired room
      t.holds.fills

  pub whole_pixels : shown_bytes (bytes_of p)
      (shown_view (data_start p k (line_record p k bs)) (data_count (line_record p k bs)) (left_fill (line_record p k bs))) bs
      ≡ data_pixels p (line_record p k bs)
  whole_pixels =
      let r = line_record p k bs in
      let g = bytes_of p in
      let w = whole_held bs k p t in
      let f = line_fits in
      ap (λ (x : ℕ). take (g * data_count r) (drop x bs)) (let e : data_start p k r ≡ line_start p k + (before p + g * left_fill r) = omega arith in e)
      ∙ sym (part_of (line_start p k) p.l (before p + g * left_fill r) (g * data_count r) bs (omega (arith, length-drop (line_start p k) bs)) (omega arith))

  pub line_pixels : shown_bytes (bytes_of p) (line_of p k bs) bs ≡ data_pixels p (line_record p k bs)
  line_pixels = ap (λ (v : View). shown_bytes (bytes_of p) v bs) (whole_shown p k bs t) ∙ whole_pixels

-- the sort that is seen is the one that the first record names
pub sort_seen_lem : (bs : List ℕ) (p : Plan) → ImageDescriptor (take 720 bs) p → sort_seen bs ≡ p.sort
unfolding sort_seen first_length
sort_seen_lem bs p d = ap (λ (w : Walked). w.state.plan.sort) (first_step image bs p d false) ∙ (first_same image bs p d).5

-- under the plan that the first record names
module _ (bs : List ℕ) (k : ℕ) (p : Plan) (t : Stands bs k p) where
  pub stands_room : p.d + p.s ≤ p.l
  stands_room = let m = t.first.room in omega arith

  pub stands_fits : before p + bytes_of p * left_fill (line_record p k bs) + bytes_of p * data_count (line_record p k bs) ≤ p.l - p.s
  stands_fits = line_fits bs k p t.first.paired stands_room t.line

  pub pixels_named : pixels_of bs k ≡ data_pixels p (line_record p k bs)
  unfolding pixels_of
  pixels_named =
      ap (λ (i : ℕ). shown_bytes (sort_of' i).group (view_of bs k) bs) (sort_seen_lem bs p t.first)
      ∙ ap (λ (i : ℕ). shown_bytes i (view_of bs k) bs) (group_same p.sort)
      ∙ ap (λ (v : View). shown_bytes (bytes_of p) v bs) (stands_shown bs k p t) ∙ whole_pixels bs k p t.first.paired stands_room t.line
