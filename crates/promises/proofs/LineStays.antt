-- More bytes never alter a shown line, a line's refusal, its pixels or its copy: a record that is held whole stays as it is, and so does the first.
use Prim.Native.Nat.{ℕ, zero, suc, ◌+◌, ◌*◌, ◌≤◌}
use mathlib.Core.Path.{◌≡◌, refl, sym, ap, ap₂, ◌∙◌, subst}
use mathlib.Core.List.{List, ◌++◌}
use mathlib.Core.Logic.{⊎_elim}
use mathlib.Core.Bool.{true, false}
use native.Mathlib.Omega.{arith}
use lib.Dec.{ltb}
use lib.ListN.{length, take, drop, length-append, length-drop}
use lib.Seq.{take-append-le, drop-append-le}
use borrow.Author.Tests.{ltb-true, ltb-false, ne_eqb}
use Rattle.std.specs.Prelude.{Ok, Err}
use Rattle.words.specs.Tests.{pick, within_of}
use Rattle.words.proofs.Laws.{cases}
use Rattle.plan.specs.Plan.{image as image', group_of, due_of}
use Rattle.plan.specs.Tables.{sort_of}
use Rattle.plan.specs.declared.Plan.{Plan}
use Rattle.walk.specs.State.{fresh}
use Rattle.turns.specs.declared.Stop.{Stop}
use Rattle.turns.specs.declared.Stop.TheVariants.{Wait as Wait', Pause, Complete, Refused as Refused'}
use Rattle.walk.specs.declared.State.{State}
use Rattle.walk.specs.declared.Walked.{Walked}
use Rattle.lines.specs.View.{found_in, on_verdict, shown_of, line_of, behind_first, first_of, view_of, sort_seen, shown_bytes, pixels_of, View, shown_view}
use Rattle.copies.specs.Row.{samples, copied_by, row_by, copied_of, row_of}
use Rattle.lines.proofs.ViewLaws.{line_in, line_out, at_short, at_whole}
use Rattle.lines.proofs.InsideLaws.{line_within, shown_within}
use Rattle.lines.specs.declared.Unshown.TheVariants as unshown
use Rattle.promises.specs.Rules.{image}
use Rattle.promises.proofs.Accepts.{good_fresh}
use Rattle.promises.proofs.Counted.{open_never_complete, pause_counted}
use Rattle.promises.proofs.FirstPasses.{one_turn}
use Rattle.promises.proofs.PlanNamed.{first_walked}
use Rattle.promises.proofs.Stays.{refusal_stays}
use Rattle.promises.proofs.Turns.{turn_pass_stays, next_stays}

-- a part that is held stays as it is
part_stays : (S m : ℕ) (bs ys : List ℕ) → S + m ≤ length bs → take m (drop S (bs ++ ys)) ≡ take m (drop S bs)
part_stays S m bs ys h = ap (take m) (drop-append-le S bs ys (omega arith)) ∙ take-append-le m (drop S bs) ys (omega (arith, length-drop S bs))

-- the first record stays, once it has passed or is refused
first_stays : (bs ys : List ℕ) → (first_of bs).stop ≡ Pause → first_of (bs ++ ys) ≡ first_of bs
first_stays bs ys e =
    let st = fresh image' in
    let t = (first_walked image bs false 1 (λ z. let m = pause_counted 1 st bs false e in omega arith)).0 in
    one_turn st (bs ++ ys) false (good_fresh image) (turn_pass_stays st bs ys false t)
    ∙ ap (λ (x : State). record { state = x; count = 1; stop = Pause }) (next_stays st bs ys t)
    ∙ sym (one_turn st bs false (good_fresh image) t)

-- the line under any plan, whatever it was, if it was not a wait
pub line_held : (p : Plan) (k : ℕ) (bs ys : List ℕ) → ((n : ℕ) → line_of p k bs ≡ Err (unshown.Wait n) → ⊥) → line_of p k (bs ++ ys) ≡ line_of p k bs
line_held p k bs ys settled = ⊎_elim inside (λ o. line_out p k (bs ++ ys) o ∙ sym (line_out p k bs o)) (cases (within_of 1 k p.n))
  where
    whole : within_of 1 k p.n ≡ true → (due_of image' p k).start + (due_of image' p k).length ≤ length bs
    whole i =
        ⊎_elim (λ h. absurd (settled _ (line_in p k bs i ∙ at_short p k (due_of image' p k) bs (ltb-true _ _ h)))) (λ h. ltb-false _ _ h)
        (cases (ltb (length bs) ((due_of image' p k).start + (due_of image' p k).length)))

    inside : within_of 1 k p.n ≡ true → line_of p k (bs ++ ys) ≡ line_of p k bs
    inside i =
        let h = whole i in
        let x = due_of image' p k in
        line_in p k (bs ++ ys) i
        ∙ at_whole p k x (bs ++ ys) (omega (arith, length-append bs ys))
        ∙ ap (λ (r : List ℕ). on_verdict (found_in p k x r) x.ordinal x.start (shown_of p x.start r)) (part_stays x.start x.length bs ys h)
        ∙ sym (line_in p k bs i ∙ at_whole p k x bs h)

-- the view: whatever it was, if it was not a wait
pub line_stays : (bs ys : List ℕ) (k : ℕ) → ((n : ℕ) → view_of bs k ≡ Err (unshown.Wait n) → ⊥) → view_of (bs ++ ys) k ≡ view_of bs k
unfolding view_of
line_stays bs ys k settled = go (first_of bs).stop refl
  where
    by_first : first_of (bs ++ ys) ≡ first_of bs → behind_first (first_of (bs ++ ys)).stop (line_of (first_of (bs ++ ys)).state.plan k (bs ++ ys))
        ≡ behind_first (first_of bs).stop (line_of (first_of bs).state.plan k (bs ++ ys))
    by_first e = ap (λ (w : Walked). behind_first w.stop (line_of w.state.plan k (bs ++ ys))) e

    by-stop : (x : Stop) (v : View) → (first_of bs).stop ≡ x → behind_first (first_of bs).stop v ≡ behind_first x v
    by-stop x v e = ap (λ (y : Stop). behind_first y v) e

    go : (x : Stop) → (first_of bs).stop ≡ x → behind_first (first_of (bs ++ ys)).stop (line_of (first_of (bs ++ ys)).state.plan k (bs ++ ys))
        ≡ behind_first (first_of bs).stop (line_of (first_of bs).state.plan k bs)
    go (Wait' n) e = absurd (settled n (by-stop (Wait' n) (line_of (first_of bs).state.plan k bs) e))
    go Pause e =
        by_first (first_stays bs ys e) ∙ by-stop Pause (line_of (first_of bs).state.plan k (bs ++ ys)) e
        ∙ line_held (first_of bs).state.plan k bs ys (λ n q. settled n (by-stop Pause (line_of (first_of bs).state.plan k bs) e ∙ q))
        ∙ sym (by-stop Pause (line_of (first_of bs).state.plan k bs) e)
    go Complete e = absurd (open_never_complete 1 (fresh image') bs e)
    go (Refused' r) e =
        by_first (refusal_stays 1 (fresh image') bs r e ys false 0) ∙ by-stop (Refused' r) (line_of (first_of bs).state.plan k (bs ++ ys)) e
        ∙ sym (by-stop (Refused' r) (line_of (first_of bs).state.plan k bs) e)

-- the bytes that a view shows, where they are held
held_bytes : (g : ℕ) (v : View) (bs ys : List ℕ) → ((start count left : ℕ) → v ≡ shown_view start count left → start + g * count ≤ length bs)
    → shown_bytes g v (bs ++ ys) ≡ shown_bytes g v bs
held_bytes g (Ok x) bs ys h = part_stays x.start (g * x.count) bs ys (h x.start x.count x.left refl)
held_bytes g (Err x) bs ys h = refl

-- under any plan whose pixels fill d, where d and the suffix fit L
pub line_pixels_stay : (p : Plan) → p.d ≡ group_of p * p.w → p.d + p.s ≤ p.l → (bs ys : List ℕ) (k : ℕ) → ((n : ℕ) → line_of p k bs ≡ Err (unshown.Wait n) → ⊥)
    → shown_bytes (group_of p) (line_of p k (bs ++ ys)) (bs ++ ys) ≡ shown_bytes (group_of p) (line_of p k bs) bs
line_pixels_stay p paired room bs ys k settled =
    ap (λ (v : View). shown_bytes (group_of p) v (bs ++ ys)) (line_held p k bs ys settled)
    ∙ held_bytes (group_of p) (line_of p k bs) bs ys (λ start count left e. line_within p paired room k bs start count left e)

-- a view that is no wait has its sort for good: a first record that has passed stays, and one that is refused names none
pub sort_stays : (bs ys : List ℕ) (k : ℕ) → ((n : ℕ) → view_of bs k ≡ Err (unshown.Wait n) → ⊥) → sort_seen (bs ++ ys) ≡ sort_seen bs
unfolding view_of sort_seen
sort_stays bs ys k settled = go (first_of bs).stop refl
  where
    go : (x : Stop) → (first_of bs).stop ≡ x → (first_of (bs ++ ys)).state.plan.sort ≡ (first_of bs).state.plan.sort
    go (Wait' n) e = absurd (settled n (ap (λ (y : Stop). behind_first y (line_of (first_of bs).state.plan k bs)) e))
    go Pause e = ap (λ (w : Walked). w.state.plan.sort) (first_stays bs ys e)
    go Complete e = absurd (open_never_complete 1 (fresh image') bs e)
    go (Refused' r) e = ap (λ (w : Walked). w.state.plan.sort) (refusal_stays 1 (fresh image') bs r e ys false 0)

-- and so do the bytes that the view shows
pub shown_stays : (bs ys : List ℕ) (k : ℕ) (v : View) → view_of bs k ≡ v
    → shown_bytes (sort_of (sort_seen bs)).group v (bs ++ ys) ≡ shown_bytes (sort_of (sort_seen bs)).group v bs
shown_stays bs ys k v e = held_bytes (sort_of (sort_seen bs)).group v bs ys (λ start count left q. shown_within bs k start count left (e ∙ q))

pub pixels_stay : (bs ys : List ℕ) (k : ℕ) → ((n : ℕ) → view_of bs k ≡ Err (unshown.Wait n) → ⊥) → pixels_of (bs ++ ys) k ≡ pixels_of bs k
unfolding pixels_of
pixels_stay bs ys k settled =
    ap₂ (λ (i : ℕ) (v : View). shown_bytes (sort_of i).group v (bs ++ ys)) (sort_stays bs ys k settled) (line_stays bs ys k settled)
    ∙ shown_stays bs ys k (view_of bs k) refl

-- the copy, 23 and 15 included, and the row behind it
row_held : (bs ys : List ℕ) (k sort : ℕ) (row : List ℕ) (v : View) → sort_seen bs ≡ sort → view_of bs k ≡ v →
    row_by v sort (bs ++ ys) row ≡ row_by v sort bs row
unfolding sort_of
row_held bs ys k zero row (Ok x) s e =
    ap (λ (px : List ℕ). pick (ltb (length row) x.count) row (samples x.count px ++ drop x.count row))
    (subst (λ (i : ℕ). shown_bytes (sort_of i).group (Ok x) (bs ++ ys) ≡ shown_bytes (sort_of i).group (Ok x) bs) s
    (shown_stays bs ys k (Ok x) e))
row_held bs ys k (suc i) row (Ok x) s e = simp (ne_eqb (suc i) 0 (λ e. omega arith))
row_held bs ys k sort row (Err x) s e = refl

pub copy_stays : (bs ys : List ℕ) (k : ℕ) (row : List ℕ) → ((n : ℕ) → copied_of bs k (length row) ≡ Err (unshown.Wait n) → ⊥)
    → (copied_of (bs ++ ys) k (length row) ≡ copied_of bs k (length row)) × (row_of (bs ++ ys) k row ≡ row_of bs k row)
unfolding copied_of row_of
copy_stays bs ys k row settled =
    let open-view : (n : ℕ) → view_of bs k ≡ Err (unshown.Wait n) → ⊥ = λ n e. settled n (ap (λ (v : View). copied_by v (sort_seen bs) (length row)) e) in
    let h = line_stays bs ys k open-view in
    let s = sort_stays bs ys k open-view in (
      ap₂ (λ (i : ℕ) (v : View). copied_by v i (length row)) s h,
      ap₂ (λ (i : ℕ) (v : View). row_by v i (bs ++ ys) row) s h ∙ row_held bs ys k (sort_seen bs) row (view_of bs k) refl refl,
    )
