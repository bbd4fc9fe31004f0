-- A shown line's data pixels lie inside its record, which is held whole: the fills add up to w, d is a sample's bytes times w, and d and s fit L. Over the
-- sample size.
use Prim.Native.Nat.{ℕ, zero, suc, ◌+◌, ◌-◌, ◌*◌, ◌≤◌}
use mathlib.Core.Path.{◌≡◌, refl, sym, ap, ◌∙◌, subst}
use mathlib.Core.List.{List}
use native.Mathlib.Omega.{arith}
use native.Mathlib.Nat.{mul-add}
use lib.ListN.{length}
use borrow.Author.Tests.{eqb-true}
use Rattle.words.specs.Words.{four_at, place_of}
use Rattle.words.proofs.Laws.{within_true}
use Rattle.plan.specs.Tables.{sort_of}
use Rattle.plan.specs.Plan.{image, group_of, due_of, line_codes}
use Rattle.plan.specs.declared.Plan.{Plan}
use Rattle.plan.proofs.CodeLaws.{line_due_lem}
use Rattle.plan.specs.declared.Due.{Due}
use Rattle.std.specs.Prelude.{Ok, Err}
use Rattle.verdicts.specs.Tests.{Verdict, first_fault, and_then}
use Rattle.image.specs.Image.{line_tests, image_record}
use Rattle.bodies.specs.Bodies.{body_tests, body_of}
use Rattle.verdicts.proofs.Holding.{fine_holds}
use Rattle.headers.specs.Header.{header_of}
use Rattle.lines.specs.View.{shown_view, left_of, data_of, pixels_from, found_in, record_at, line_of, first_of, view_of, sort_seen}
use Rattle.lines.proofs.LinedLaws.{lined}
use Rattle.lines.proofs.ViewLaws.{Seen, line_seen, view_line}

-- the data pixels of a line, of g bytes each, end before the suffix
pub data_fits : (g : ℕ) (p : Plan) (left count right : ℕ) → p.d ≡ g * p.w → p.d + p.s ≤ p.l → left + count + right ≡ p.w
    → pixels_from p + g * left + g * count ≤ p.l - p.s
data_fits g p left count right e h f =
    let a : g * p.w ≡ g * (left + count + right) = ap (λ (w : ℕ). g * w) (sym f) in
    omega (arith, mul-add g (left + count) right, mul-add g left count)

-- header and body, apart and together
then_fine : (h t : Verdict) → and_then h t ≡ Ok tt → (h ≡ Ok tt) × (t ≡ Ok tt)
then_fine (Ok u) t e = (refl, e)
then_fine (Err x) t e = cc

pub found_parts : (p : Plan) (k : ℕ) (s : Due) (r : List ℕ) → found_in p k s r ≡ Ok tt
    → (header_of s.ordinal s.codes s.length r ≡ Ok tt) × (body_of image s.run p k r ≡ Ok tt)
unfolding found_in
found_parts p k s r e = then_fine (header_of s.ordinal s.codes s.length r) (body_of image s.run p k r) e

pub parts_found : (p : Plan) (k : ℕ) (s : Due) (r : List ℕ) → header_of s.ordinal s.codes s.length r ≡ Ok tt → body_of image s.run p k r ≡ Ok tt
    → found_in p k s r ≡ Ok tt
unfolding found_in
parts_found p k s r a b = ap (λ (v : Verdict). and_then v (body_of image s.run p k r)) a ∙ b

-- a line's body is its three tests
pub line_body_lem : (p : Plan) (k : ℕ) (r : List ℕ) → body_of image 1 p k r ≡ first_fault (line_tests p.w k r)
unfolding body_of body_tests image_record
line_body_lem p k r = refl

line_fills : (p : Plan) (k : ℕ) (r : List ℕ) → body_of image 1 p k r ≡ Ok tt → left_of r + data_of r + four_at r (place_of 29) ≡ p.w
unfolding line_tests
line_fills p k r e = eqb-true _ _ (fine_holds (line_tests p.w k r) (sym (line_body_lem p k r) ∙ e)).1.1.0

-- of a line that is shown under a plan whose pixels fill d: its data pixels end within the bytes held
module _ (p : Plan) (paired : p.d ≡ group_of p * p.w) (room : p.d + p.s ≤ p.l) where
  seen_within : (k : ℕ) (bs : List ℕ) (start count left : ℕ) → Seen p k (due_of image p k) bs start count left → start + group_of p * count ≤ length bs
  seen_within zero bs start count left q = absurd (let h = within_true 1 0 p.n q.inside in omega arith)
  seen_within (suc k) bs start count left q =
      let h = within_true 1 (suc k) p.n q.inside in
      let e = line_due_lem p k (omega arith) in
      go (due_of image p (suc k)) e q
    where
      go : (s : Due) → s ≡ record { ordinal = suc k + 1; run = 1; codes = line_codes p.sort; length = p.l; start = 720 + k * p.l } → Seen p
          (suc k) s bs start count left → start + group_of p * count ≤ length bs
      go s e q =
          let r = record_at s bs in
          let b : body_of image 1 p (suc k) r ≡ Ok tt = subst (λ (i : ℕ). body_of image i p (suc k) r ≡ Ok tt) (ap (λ (x : Due). x.run) e)
          (found_parts p (suc k) s r q.fine).1 in
          let l : s.length ≡ p.l = ap (λ (x : Due). x.length) e in
          let c : group_of p * count ≡ group_of p * data_of r = ap (λ (n : ℕ). group_of p * n) q.counts in
          omega (arith, data_fits (group_of p) p (left_of r) (data_of r) (four_at r (place_of 29)) paired room (line_fills p (suc k) r b), q.whole, q.starts)

  pub line_within : (k : ℕ) (bs : List ℕ) (start count left : ℕ) → line_of p k bs ≡ shown_view start count left → start + group_of p * count ≤ length bs
  line_within k bs start count left e = seen_within k bs start count left (line_seen p k bs start count left e)

-- and of a line that is shown under the first record's plan, by the bytes of its sort
pub shown_within : (bs : List ℕ) (k start count left : ℕ) → view_of bs k ≡ shown_view start count left
    → start + (sort_of (sort_seen bs)).group * count ≤ length bs
unfolding sort_seen
shown_within bs k start count left e =
    let p = (first_of bs).state.plan in
    let a = view_line bs k start count left e in
    let h = within_true 1 k p.n (line_seen p k bs start count left a).inside in
    let o = lined bs in
    let some : 1 ≤ p.n = omega arith in
    line_within p (o.paired some) (let m = o.room some in omega arith) k bs start count left a
