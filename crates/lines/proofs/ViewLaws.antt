-- The line view one test at a time, and back: where a line is shown, each of its tests has held, and its data pixels lie inside its record.
use Prim.Native.Nat.{ℕ, ◌+◌, ◌-◌, ◌*◌, ◌≤◌, ◌<◌}
use mathlib.Core.Path.{◌≡◌, refl, sym, ap, ◌∙◌}
use mathlib.Core.List.{List, []}
use mathlib.Core.Bool.{Bool, true, false}
use native.Mathlib.Omega.{arith}
use lib.Dec.{ltb}
use lib.ListN.{length, take, drop}
use borrow.Author.Tests.{lt-ltb, le-ltb, ltb-false}
use Rattle.words.specs.Tests.{pick, within_of}
use Rattle.words.specs.Answer.{bare_refusal}
use Rattle.words.specs.declared.Refusal.{Refusal}
use Rattle.plan.specs.Tables.{sort_of}
use Rattle.plan.specs.Plan.{image, group_of, due_of}
use Rattle.plan.specs.declared.Plan.{Plan}
use Rattle.plan.specs.declared.Due.{Due}
use Rattle.verdicts.specs.Tests.{Verdict, and_then}
use Rattle.bodies.specs.Bodies.{body_of}
use Rattle.headers.specs.Header.{header_of}
use Rattle.turns.specs.Turn.{Near}
use Rattle.turns.specs.declared.Stop.{Stop}
use Rattle.turns.specs.declared.Stop.TheVariants.{Wait as Wait', Pause, Complete, Refused as Refused'}
use Rattle.turns.proofs.FaultLaws.{header_near, body_near}
use Rattle.lines.specs.View.{View, shown_view, left_of, data_of, pixels_from, shown_of, on_verdict, found_in, record_at, line_at}
use Rattle.lines.specs.View.{line_of, behind_first, first_of, view_of, sort_seen, shown_bytes, pixels_of}
use Rattle.lines.specs.declared.Shown.{Shown}
use Rattle.lines.specs.declared.Unshown.{Unshown}
use Rattle.lines.specs.declared.Unshown.TheVariants.{Wait, Refused}
use Rattle.std.specs.Prelude.{Ok, Err}

-- ---- what is found in a line's record

near_then : (h t : Verdict) → Near h → Near t → Near (and_then h t)
near_then (Ok u) t a b = b
near_then (Err x) t a b = a

pub found_near : (p : Plan) (k : ℕ) (s : Due) (r : List ℕ) → Near (found_in p k s r)
unfolding found_in
found_near p k s r =
    near_then (header_of s.ordinal s.codes s.length r) (body_of image s.run p k r) (header_near s.ordinal s.codes s.length r)
    (body_near image s.run p k r)

-- ---- the line whose record is due there

-- what the code hands on as `&bytes[from..to]`
pub part_is : (from long : ℕ) (bs : List ℕ) → take (from + long - from) (drop from bs) ≡ take long (drop from bs)
part_is from long bs = ap (λ (n : ℕ). take n (drop from bs)) (let e : from + long - from ≡ long = omega arith in e)

module _ (p : Plan) (k : ℕ) (s : Due) (bs : List ℕ) where
  pub at_short : length bs < s.start + s.length → line_at p k s bs ≡ Err (Wait (s.start + s.length - length bs))
  unfolding line_at
  at_short h = simp (lt-ltb _ _ h)

  pub at_whole : s.start + s.length ≤ length bs
      → line_at p k s bs ≡ on_verdict (found_in p k s (record_at s bs)) s.ordinal s.start (shown_of p s.start (record_at s bs))
  unfolding line_at
  at_whole h = simp (le-ltb _ _ h)

-- ---- the line under a plan

module _ (p : Plan) (k : ℕ) (bs : List ℕ) where
  pub line_in : within_of 1 k p.n ≡ true → line_of p k bs ≡ line_at p k (due_of image p k) bs
  unfolding line_of
  line_in e = simp e

  pub line_out : within_of 1 k p.n ≡ false → line_of p k bs ≡ Err (Refused (bare_refusal 13))
  unfolding line_of
  line_out e = simp e

-- ---- and back: a line that is shown

-- each test of a line that is shown
pub record Seen (p : Plan) (k : ℕ) (s : Due) (bs : List ℕ) (start count left : ℕ) : Type 0 where
  pub inside : within_of 1 k p.n ≡ true
  pub whole : s.start + s.length ≤ length bs
  pub fine : found_in p k s (record_at s bs) ≡ Ok tt
  pub starts : start ≡ s.start + pixels_from p + group_of p * left_of (record_at s bs)
  pub counts : count ≡ data_of (record_at s bs)
  pub lefts : left ≡ left_of (record_at s bs)

pub wait≢shown : (n a b c : ℕ) → ◌≡◌ {A = View} (Err (Wait n)) (shown_view a b c) → ⊥
wait≢shown n a b c e = cc

pub refused≢shown : (r : Refusal) (a b c : ℕ) → ◌≡◌ {A = View} (Err (Refused r)) (shown_view a b c) → ⊥
refused≢shown r a b c e = cc

-- two views that show the same show the same of each number
same_shown : (x y : Shown) → ◌≡◌ {A = View} (Ok x) (Ok y) → x ≡ y
same_shown x y e = cc

module _ (p : Plan) (k : ℕ) (bs : List ℕ) (start count left : ℕ) where
  pub line_seen : line_of p k bs ≡ shown_view start count left → Seen p k (due_of image p k) bs start count left
  unfolding line_of line_at shown_of
  line_seen e = go (within_of 1 k p.n) refl (ltb (length bs) ((due_of image p k).start + (due_of image p k).length)) refl
      (found_in p k (due_of image p k) (record_at (due_of image p k) bs)) refl e
    where
      go : (a : Bool) → within_of 1 k p.n ≡ a → (b : Bool) → ltb (length bs) ((due_of image p k).start + (due_of image p k).length) ≡ b
          → (v : Verdict) → found_in p k (due_of image p k) (record_at (due_of image p k) bs) ≡ v
          → pick a
          (pick b (Err (Wait ((due_of image p k).start + (due_of image p k).length - length bs)))
          (on_verdict v (k + 1) (due_of image p k).start (shown_of p (due_of image p k).start (record_at (due_of image p k) bs))))
          (Err (Refused (bare_refusal 13))) ≡ shown_view start count left
          → Seen p k (due_of image p k) bs start count left
      go false ea b eb v ev e = absurd (refused≢shown _ _ _ _ e)
      go true ea true eb v ev e = absurd (wait≢shown _ _ _ _ e)
      go true ea false eb (Err x) ev e = absurd (refused≢shown _ _ _ _ e)
      go true ea false eb (Ok u) ev e =
          let same = same_shown _ _ (sym e) in
          record {
            inside = ea;
            whole = ltb-false _ _ eb;
            fine = ev;
            starts = ap (λ (x : Shown). x.start) same;
            counts = ap (λ (x : Shown). x.count) same;
            lefts = ap (λ (x : Shown). x.left) same;
          }

  pub seen_line : Seen p k (due_of image p k) bs start count left → line_of p k bs ≡ shown_view start count left
  unfolding shown_of
  seen_line q =
      line_in p k bs q.inside ∙ at_whole p k (due_of image p k) bs q.whole
      ∙ ap (λ (v : Verdict). on_verdict v (k + 1) (due_of image p k).start (shown_of p (due_of image p k).start (record_at (due_of image p k) bs))) q.fine
      ∙ rw (q.starts, q.counts, q.lefts)

-- a view that shows a line shows it under the first record's plan
pub view_line : (bs : List ℕ) (k start count left : ℕ) → view_of bs k ≡ shown_view start count left → line_of
    (first_of bs).state.plan k bs ≡ shown_view start count left
unfolding view_of
view_line bs k start count left e = go (first_of bs).stop e
  where
    go : (x : Stop) → behind_first x (line_of (first_of bs).state.plan k bs) ≡ shown_view start count left → line_of
        (first_of bs).state.plan k bs ≡ shown_view start count left
    go (Wait' n) e = absurd (wait≢shown _ _ _ _ e)
    go Pause e = e
    go Complete e = e
    go (Refused' r) e = absurd (refused≢shown _ _ _ _ e)

-- ---- the pixels handed back, by the view

module _ (bs : List ℕ) (k : ℕ) (v : View) (sees : v ≡ view_of bs k) where
  pixels_are : pixels_of bs k ≡ shown_bytes (sort_of (sort_seen bs)).group v bs
  unfolding pixels_of
  pixels_are = ap (λ (x : View). shown_bytes (sort_of (sort_seen bs)).group x bs) (sym sees)

  pub pixels_none : (x : Unshown) → v ≡ Err x → ◌≡◌ {A = List ℕ} [] (pixels_of bs k)
  pixels_none x e = sym (pixels_are ∙ ap (λ (y : View). shown_bytes (sort_of (sort_seen bs)).group y bs) e)

  pub pixels_shown : (g : ℕ) → g ≡ (sort_of (sort_seen bs)).group → (x : Shown) → v ≡ Ok x
      → take (x.start + g * x.count - x.start) (drop x.start bs) ≡ pixels_of bs k
  pixels_shown g same x e =
      part_is x.start (g * x.count) bs
      ∙ sym (pixels_are ∙ ap (λ (i : ℕ). shown_bytes i v bs) (sym same) ∙ ap (λ (y : View). shown_bytes g y bs) e)
