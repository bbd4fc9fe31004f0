-- The rows of a listing are those that the rules name: the first record's row, then the lines' in their order, each of a line that is whole there: by
-- induction over the rows, record by record.
use Prim.Native.Nat.{ℕ, zero, suc, ◌+◌, ◌-◌, ◌*◌, ◌≤◌, ◌<◌}
use mathlib.Core.Path.{◌≡◌, refl, sym, ap, ◌∙◌, subst}
use mathlib.Core.Bool.{true, false}
use mathlib.Core.Logic.{◌≢◌, ⊎_elim}
use mathlib.Core.List.{List, [], ◌∷◌, ◌++◌}
use native.Mathlib.Omega.{arith}
use native.Mathlib.Nat.{zero-mul, suc-mul}
use lib.Dec.{eqb, leb, ltb}
use lib.ListN.{length, take, drop, length-drop}
use lib.Seq.{drop-drop}
use borrow.Author.Tests.{eqb-true, eqb-false, leb-false, ltb-false, ne_eqb}
use Rattle.std.specs.Prelude.{Ok, Err}
use Rattle.words.specs.Words.{four_at, place_of}
use Rattle.words.proofs.Laws.{cases}
use Rattle.plan.specs.Plan.{image as image', first_length, total_of, spot_of, line_codes, plan_good}
use Rattle.plan.specs.declared.Plan.{Plan}
use Rattle.plan.specs.declared.Due.{Due}
use Rattle.plan.proofs.CodeLaws.{line_due_lem, image_total}
use Rattle.plan.proofs.GoodLaws.{image_room}
use Rattle.bodies.specs.Bodies.{body_of}
use Rattle.headers.specs.Header.{header_of}
use Rattle.turns.specs.Turn.{Turn}
use Rattle.turns.specs.declared.Stop.TheVariants.{Pause}
use Rattle.turns.proofs.TurnLaws.{Parts, pass_parts}
use Rattle.walk.specs.State.{fresh, good_state, next_due}
use Rattle.walk.specs.Walk.{turn_of, next_of, walk_of}
use Rattle.walk.specs.declared.State.{State}
use Rattle.walk.specs.declared.Walked.{Walked}
use Rattle.walk.proofs.GoodLaws.{good_later}
use Rattle.walk.proofs.LoopLaws.{walk_pause, walk_pass}
use Rattle.walk.proofs.TurnLaws.{good_next, next_as_later}
use Rattle.listing.specs.Rows.{passed_row, too_long}
use Rattle.rows.specs.declared.Row.{Row}
use Rattle.rows.specs.declared.Row.TheVariants.{Image, Line, TooLong}
use Rattle.promises.specs.Rules.{image}
use Rattle.promises.specs.Newest.{ImageDescriptor}
use Rattle.promises.specs.Demands.{planned_total}
use Rattle.promises.specs.Shown.{WholeLine, line_start, line_record}
use Rattle.promises.specs.Listing.{Lists, closing_by, rows_of, line_row, line_rows, Named, alone, lines}
use Rattle.promises.proofs.Accepts.{good_fresh}
use Rattle.promises.proofs.LineNamed.{line_size, line_header, line_body_lem}
use Rattle.promises.proofs.ListingIs.{rows_long, rows_halt, rows_pass, fresh_short, listing_rows}
use Rattle.promises.proofs.Parts.{header_take}
use Rattle.promises.proofs.PlanNamed.{first_passed, enough_planned}

-- an image behind k records
abbrev at : Plan → ℕ → State
at p k = record { kind = image'; passed = k; plan = p }

-- the row of a line that has passed
line_row_lem : (p : Plan) (k : ℕ) (r : List ℕ) (after : State)
    → passed_row (at p (suc k)) r after ≡ Line (suc k) (four_at r (place_of 21)) (four_at r (place_of 25)) (four_at r (place_of 29))
unfolding passed_row
line_row_lem p k r after = simp (ne_eqb (suc k) 0 (λ e. omega arith))

module _ (p : Plan) (good : plan_good image' p ≡ true) (input : List ℕ) where
  -- the bytes from line k + 1 on
  abbrev from : ℕ → List ℕ
  from k = drop (720 + k * p.l) input

  same_record : (k : ℕ) → take p.l (from k) ≡ line_record p (suc k) input
  same_record k = ap (λ (i : ℕ). take p.l (drop (720 + i * p.l) input)) (let e : k ≡ suc k - 1 = omega arith in e)

  -- a line that passes is whole there, and meets its rules
  passes_whole : (k : ℕ) → k < p.n → turn_of (at p (suc k)) (from k) true ≡ Ok tt → WholeLine input (suc k) p
  passes_whole k h t =
      let q = subst (λ (x : Due). Parts (leb (total_of image' p) (suc k)) (ltb (length (from k)) 12) (ltb (length (from k)) x.length)
      (header_of x.ordinal x.codes x.length (from k)) (body_of image' x.run p (suc k) (take x.length (from k))))
      (line_due_lem p k h) (pass_parts image' p (suc k) (next_due (at p (suc k))) (from k) true t) in
      let a = image_room p good in
      let whole = ltb-false (length (from k)) p.l q.whole in
      let held : line_start p (suc k) + p.l ≤ length input =
      subst (λ (i : ℕ). 720 + i * p.l + p.l ≤ length input) (let e : k ≡ suc k - 1 = omega arith in e)
      (omega (arith, length-drop (720 + k * p.l) input, a)) in
      let size = line_size p (suc k) input held in
      let head : header_of (suc k + 1) (line_codes p.sort) p.l (line_record p (suc k) input) ≡ Ok tt =
      ap (λ (r : List ℕ). header_of (suc k + 1) (line_codes p.sort) p.l r) (sym (same_record k))
      ∙ header_take (suc k + 1) (line_codes p.sort) p.l p.l (from k) (omega (arith, a)) ∙ q.head in
      let body : body_of image' 1 p (suc k) (line_record p (suc k) input) ≡ Ok tt =
      ap (λ (r : List ℕ). body_of image' 1 p (suc k) r) (sym (same_record k)) ∙ q.body in
      record { least = omega arith; most = omega arith; is = (line_header p (suc k) input size).0 head; holds = (line_body_lem p (suc k) input).0 body }

  -- from line k + 1 on: so many lines, each of them whole, and a last row
  pub record From (k : ℕ) (rows : List Row) : Type 0 where
    pub many : ℕ
    pub end : Row
    pub are : rows ≡ line_rows p (suc k) many input ++ (end ∷ [])
    pub each : (i : ℕ) → suc k ≤ i → i < suc k + many → WholeLine input i p

  lines_from : (b k : ℕ) → good_state (at p (suc k)) ≡ true → (walk_of b (at p (suc k)) (from k) true).stop ≢ Pause → From k (rows_of b (at p (suc k)) (from k))
  lines_from zero k g h = absurd (h (ap (λ (w : Walked). w.stop) (walk_pause (at p (suc k)) (from k) true g)))
  lines_from (suc b) k g h =
      ⊎_elim (λ s. record { many = 0; end = TooLong; are = rows_long (at p (suc k)) (from k) b s; each = λ i l u. absurd (omega arith) })
      (λ s. go s (turn_of (at p (suc k)) (from k) true) refl (lines_from b (suc k))) (cases (too_long (at p (suc k))))
    where
      go : too_long (at p (suc k)) ≡ false → (t : Turn) → turn_of (at p (suc k)) (from k) true ≡ t
          → (good_state (at p (suc (suc k))) ≡ true → (walk_of b (at p (suc (suc k))) (from (suc k)) true).stop ≢ Pause
          → From (suc k) (rows_of b (at p (suc (suc k))) (from (suc k))))
          → From k (rows_of (suc b) (at p (suc k)) (from k))
      go s (Err x) t more =
          record { many = 0; end = closing_by (at p (suc k)) x; are = rows_halt (at p (suc k)) (from k) b s x t; each = λ i l u. absurd (omega arith) }
      go s (Ok u) t more =
          let q = pass_parts image' p (suc k) (next_due (at p (suc k))) (from k) true t in
          let n : k < p.n = omega (arith, leb-false (total_of image' p) (suc k) q.going, image_total p) in
          let l : (next_due (at p (suc k))).length ≡ p.l = ap (λ (x : Due). x.length) (line_due_lem p k n) in
          let one : suc k + 1 ≡ suc (suc k) = omega arith in
          let next : next_of (at p (suc k)) (from k) ≡ at p (suc (suc k)) =
          sym (next_as_later (at p (suc k)) (from k) p (λ e. omega arith) refl) ∙ ap (at p) one in
          let rest : drop (next_due (at p (suc k))).length (from k) ≡ from (suc k) =
          ap (λ (i : ℕ). drop i (from k)) l ∙ drop-drop p.l (720 + k * p.l) input
          ∙ ap (λ (i : ℕ). drop i input) (let e : 720 + k * p.l + p.l ≡ 720 + suc k * p.l = omega (arith, suc-mul k p.l) in e) in
          let v = walk_pass (at p (suc k)) (from k) true b g t in
          let far : (walk_of b (at p (suc (suc k))) (from (suc k)) true).stop ≢ Pause =
          λ z. h (ap (λ (o : Walked). o.stop) v ∙ ap (λ (st : State). (walk_of b st (drop (next_due (at p (suc k))).length (from k)) true).stop) next
          ∙ ap (λ (bs : List ℕ). (walk_of b (at p (suc (suc k))) bs true).stop) rest ∙ z) in
          let f = more (subst (λ (st : State). good_state st ≡ true) next (good_next (at p (suc k)) (from k) true g t)) far in
          let r : passed_row (at p (suc k)) (take (next_due (at p (suc k))).length (from k)) (next_of (at p (suc k)) (from k)) ≡ line_row p (suc k) input =
          line_row_lem p k (take (next_due (at p (suc k))).length (from k)) (next_of (at p (suc k)) (from k))
          ∙ ap (λ (x : List ℕ). Line (suc k) (four_at x (place_of 21)) (four_at x (place_of 25)) (four_at x (place_of 29)))
          (ap (λ (i : ℕ). take i (from k)) l ∙ same_record k) in
          record {
            many = suc f.many;
            end = f.end;
            are =
                rows_pass (at p (suc k)) (from k) b s t
                ∙ ap (λ (x : Row). x ∷ rows_of b (next_of (at p (suc k)) (from k)) (drop (next_due (at p (suc k))).length (from k))) r
                ∙ ap (λ (st : State). line_row p (suc k) input ∷ rows_of b st (drop (next_due (at p (suc k))).length (from k))) next
                ∙ ap (λ (bs : List ℕ). line_row p (suc k) input ∷ rows_of b (at p (suc (suc k))) bs) rest
                ∙ ap (λ (x : List Row). line_row p (suc k) input ∷ x) f.are;
            each = λ i a u.
                ⊎_elim (λ e. subst (λ (j : ℕ). WholeLine input j p) (eqb-true (suc k) i e) (passes_whole k n t))
                (λ e. f.each i (let z = eqb-false (suc k) i e in omega arith) (omega arith)) (cases (eqb (suc k) i));
          }

first_row : (input : List ℕ) (after : State) (r : List ℕ) → passed_row (fresh image') r after ≡ Image after.plan.n after.plan.w
unfolding passed_row
first_row input after r = refl

-- the state behind the first record
behind_first_lem : (input : List ℕ) → next_of (fresh image') input ≡ at (next_of (fresh image') input).plan 1
unfolding next_of
behind_first_lem input = refl

first_long : (next_due (fresh image')).length ≡ 720
unfolding spot_of first_length
first_long = refl

first_of : first_length 3 ≡ 720
unfolding first_length
first_of = refl

named_rows : (input : List ℕ) (d : ℕ) → (walk_of (suc d) (fresh image') input true).stop ≢ Pause → Named input (rows_of (suc d) (fresh image') input)
named_rows input d h = go (turn_of (fresh image') input true) refl
  where
    go : (t : Turn) → turn_of (fresh image') input true ≡ t → Named input (rows_of (suc d) (fresh image') input)
    go (Err x) t = subst (Named input) (sym (rows_halt (fresh image') input d fresh_short x t)) (alone (closing_by (fresh image') x))
    go (Ok u) t =
        let after = next_of (fresh image') input in
        let p = after.plan in
        let g = good_next (fresh image') input true (good_fresh image) t in
        let b = behind_first_lem input in
        let g' : good_state (at p 1) ≡ true = subst (λ (st : State). good_state st ≡ true) b g in
        let good = (good_later (at p 1) g' (λ e. omega arith)).0 in
        let z : 720 ≡ 720 + 0 * p.l = omega (arith, zero-mul p.l) in
        let rest : drop (next_due (fresh image')).length input ≡ drop (720 + 0 * p.l) input = ap (λ (i : ℕ). drop i input) (first_long ∙ z) in
        let v = walk_pass (fresh image') input true d (good_fresh image) t in
        let far : (walk_of d (at p 1) (drop (720 + 0 * p.l) input) true).stop ≢ Pause =
        λ y. h (ap (λ (o : Walked). o.stop) v ∙ ap (λ (st : State). (walk_of d st (drop (next_due (fresh image')).length input) true).stop) b
        ∙ ap (λ (bs : List ℕ). (walk_of d (at p 1) bs true).stop) rest ∙ y) in
        let f = lines_from p good input d 0 g' far in
        let e : rows_of (suc d) (fresh image') input ≡ Image p.n p.w ∷ (line_rows p 1 f.many input ++ (f.end ∷ [])) =
        rows_pass (fresh image') input d fresh_short t
        ∙ ap (λ (x : Row). x ∷ rows_of d after (drop (next_due (fresh image')).length input))
        (first_row input after (take (next_due (fresh image')).length input))
        ∙ ap (λ (st : State). Image p.n p.w ∷ rows_of d st (drop (next_due (fresh image')).length input)) b
        ∙ ap (λ (bs : List ℕ). Image p.n p.w ∷ rows_of d (at p 1) bs) rest
        ∙ ap (λ (x : List Row). Image p.n p.w ∷ x) f.are in
        subst (Named input) (sym e)
        (lines p f.many f.end (subst (λ (i : ℕ). ImageDescriptor (take i input) p) first_of (first_passed image input true t))
        (λ k a u. f.each k a (omega arith)))

pub listing_named : {input : List ℕ} {rows : List Row} → Lists (fresh image') [] input rows → Named input rows
listing_named {input} l =
    let b = planned_total image input in
    let h = enough_planned image (suc b) input true (omega arith) in
    subst (Named input) (sym (listing_rows l (suc b) h)) (named_rows input b h)
