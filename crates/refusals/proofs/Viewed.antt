-- A line view and a row copy refuse exactly where `Questions` says so: the first record as in the walk, then the line under the plan that it names,
-- whose tests find the first of its rules.
use Prim.Native.Nat.{ℕ, suc, ◌+◌, ◌-◌, ◌*◌, ◌≤◌}
use mathlib.Core.Path.{◌≡◌, refl, sym, ap, ap₂, ◌∙◌, subst}
use mathlib.Core.Logic.{◌↔◌}
use mathlib.Core.List.{List, []}
use mathlib.Core.Bool.{Bool, true, false}
use native.Mathlib.Numerals.{add-one}
use lib.Dec.{ltb}
use lib.ListN.{length, take, drop}
use borrow.Author.Tests.{ltb-true, ltb-false}
use Rattle.std.specs.Prelude.{Ok, Err}
use Rattle.words.specs.Tests.{within_of}
use Rattle.words.specs.Answer.{bare_refusal, refused_as}
use Rattle.words.specs.declared.Refusal.{Refusal}
use Rattle.words.proofs.Laws.{within_true, within_false, true_within}
use Rattle.plan.specs.Plan.{line_codes, first_length}
use Rattle.plan.specs.Plan as plan
use Rattle.plan.specs.declared.Plan.{Plan}
use Rattle.plan.specs.declared.Due.{Due}
use Rattle.headers.specs.Header.{header_of}
use Rattle.bodies.specs.Bodies.{body_of}
use Rattle.turns.specs.declared.Stop.{Stop}
use Rattle.turns.specs.declared.Stop.TheVariants as stop
use Rattle.walk.specs.State.{fresh}
use Rattle.walk.specs.Walk.{next_of}
use Rattle.walk.specs.declared.Walked.{Walked}
use Rattle.lines.specs.View.{on_verdict, found_in, shown_of, line_at, line_of, behind_first, first_of, view_of, View, shown_view}
use Rattle.lines.specs.Said.{view_as}
use Rattle.lines.proofs.ViewLaws.{at_short, at_whole, line_in, line_out}
use Rattle.verdicts.specs.Tests.{Verdict}
use Rattle.lines.specs.declared.Unshown.TheVariants as unshown
use Rattle.promises.specs.Rules.{image, Coded, Is}
use Rattle.promises.specs.Newest.{ImageDescriptor}
use Rattle.promises.specs.Shown.{line_start, line_record}
use Rattle.promises.proofs.AnyEdition.{Same}
use Rattle.promises.proofs.Counted.{open_never_complete}
use Rattle.promises.proofs.Parts.{CodedBy}
use Rattle.promises.proofs.Sorts.{code_same}
use Rattle.promises.proofs.LineNamed.{line_as, as_due, first_there}
use Rattle.promises.proofs.FirstPasses.{first_step, first_same}
use Rattle.refusals.specs.Refusals.{FirstWrong}
use Rattle.refusals.specs.Refusals as refusals
use Rattle.refusals.specs.Questions.{line_rules, ViewRefuses, first, outside, line}
use Rattle.refusals.proofs.Finds.{Finds, finds_then, finds_fault}
use Rattle.refusals.proofs.PartFinds.{header_finds}
use Rattle.refusals.proofs.BodyFinds.{body_finds}
use Rattle.refusals.proofs.Said as said
use Rattle.refusals.proofs.Judged.{same_refusal}
use Rattle.refusals.proofs.Walked.{first_refused}

refused_same : {x y : Refusal} → ◌≡◌ {A = View} (Err (unshown.Refused x)) (Err (unshown.Refused y)) → x ≡ y
refused_same e = cc

wait≢refused : (n : ℕ) (x : Refusal) → ◌≡◌ {A = View} (Err (unshown.Wait n)) (Err (unshown.Refused x)) → ⊥
wait≢refused n x e = cc

shown≢refused : (a b c : ℕ) (x : Refusal) → ◌≡◌ {A = View} (shown_view a b c) (Err (unshown.Refused x)) → ⊥
shown≢refused a b c x e = cc

-- ---- under a plan

-- what is wrong with line k, by the numbers of the plan that it hangs on
record Wrongly (n l w sort k : ℕ) (bs : List ℕ) (x : Refusal) : Type 0 where
  least : 1 ≤ k
  most : k ≤ n
  whole : 720 + (k - 1) * l + l ≤ length bs
  at : ℕ
  wrong : FirstWrong (line_rules (record { pointers = 0; counts = []; lengths = []; n = n; l = l; w = w; d = 0; s = 0; sort = sort }) k
      (take l (drop (720 + (k - 1) * l) bs))) x.number at
  ordinal : x.«record» ≡ suc k
  place : x.place ≡ 720 + (k - 1) * l + at

data LineRefused (n l w sort k : ℕ) (bs : List ℕ) (x : Refusal) : Type 0 where
  none : ((1 ≤ k) × (k ≤ n) → ⊥) → x ≡ bare_refusal 13 → LineRefused n l w sort k bs x
  some : Wrongly n l w sort k bs x → LineRefused n l w sort k bs x

module _ (p : Plan) (k : ℕ) (bs : List ℕ) where
  -- header and body of the line's record find the first of its rules
  line_finds : Finds (found_in p k (line_as p k) (line_record p k bs)) (line_rules p k (line_record p k bs))
  unfolding found_in
  line_finds =
      finds_then (header_of (k + 1) (line_codes p.sort) p.l (line_record p k bs)) (body_of plan.image 1 p k (line_record p k bs)) _ _
      (subst (λ (x : ℕ). Finds (header_of (k + 1) (line_codes p.sort) p.l (line_record p k bs))
      (refusals.header (suc k) (Coded 50 x 18 (Is 20)) p.l (line_record p k bs))) (code_same p.sort)
      (subst (λ (o : ℕ). Finds (header_of (k + 1) (line_codes p.sort) p.l (line_record p k bs))
      (refusals.header o (CodedBy (line_codes p.sort)) p.l (line_record p k bs)))
      (add-one k) (header_finds (k + 1) (line_codes p.sort) p.l (line_record p k bs))))
      (λ e. body_finds image p 1 k (line_record p k bs) tt)

  line_to : (x : Refusal) → line_of p k bs ≡ Err (unshown.Refused x) → LineRefused p.n p.l p.w p.sort k bs x
  unfolding shown_of
  line_to x e = go (within_of 1 k p.n) refl
    where
      found : 1 ≤ k → k ≤ p.n → line_start p k + p.l ≤ length bs → (v : Verdict) → found_in p k (line_as p k) (line_record p k bs) ≡ v
          → on_verdict v (k + 1) (line_start p k) (shown_of p (line_start p k) (line_record p k bs)) ≡ Err (unshown.Refused x)
          → LineRefused p.n p.l p.w p.sort k bs x
      found a b h (Ok u) q f = absurd (shown≢refused _ _ _ x f)
      found a b h (Err z) q f =
          let s = refused_same f in
          some (record {
            least = a;
            most = b;
            whole = h;
            at = z.place;
            wrong = subst (λ (y : Refusal). FirstWrong (line_rules p k (line_record p k bs)) y.number z.place) s (line_finds.fault z q);
            ordinal = ap (λ (y : Refusal). y.«record») (sym s) ∙ add-one k;
            place = ap (λ (y : Refusal). y.place) (sym s);
          })

      held : 1 ≤ k → k ≤ p.n → line_at p k (line_as p k) bs ≡ Err (unshown.Refused x) → LineRefused p.n p.l p.w p.sort k bs x
      held a b f = by (ltb (length bs) (line_start p k + p.l)) refl
        where
          by : (t : Bool) → ltb (length bs) (line_start p k + p.l) ≡ t → LineRefused p.n p.l p.w p.sort k bs x
          by true q = absurd (wait≢refused _ x (sym (at_short p k (line_as p k) bs (ltb-true _ _ q)) ∙ f))
          by false q =
              let h = ltb-false (length bs) (line_start p k + p.l) q in
              found a b h (found_in p k (line_as p k) (line_record p k bs)) refl (sym (at_whole p k (line_as p k) bs h) ∙ f)

      go : (t : Bool) → within_of 1 k p.n ≡ t → LineRefused p.n p.l p.w p.sort k bs x
      go true q =
          let h = within_true 1 k p.n q in
          held h.0 h.1 (ap (λ (s : Due). line_at p k s bs) (sym (as_due p k h.0 h.1)) ∙ sym (line_in p k bs q) ∙ e)
      go false q = none (within_false 1 k p.n q) (sym (refused_same (sym (line_out p k bs q) ∙ e)))

  line_from : (x : Refusal) → LineRefused p.n p.l p.w p.sort k bs x → line_of p k bs ≡ Err (unshown.Refused x)
  line_from x (none h e) = line_out p k bs (out (within_of 1 k p.n) refl) ∙ ap (λ (r : Refusal). Err (unshown.Refused r)) (sym e)
    where
      out : (t : Bool) → within_of 1 k p.n ≡ t → within_of 1 k p.n ≡ false
      out true q = absurd (h (within_true 1 k p.n q))
      out false q = q
  line_from x (some y) =
      let due = as_due p k y.least y.most in
      let (z, v, n, i) = finds_fault (found_in p k (line_as p k) (line_record p k bs)) (line_rules p k (line_record p k bs)) line_finds x.number y.at y.wrong in
      line_in p k bs (true_within 1 k p.n y.least y.most)
      ∙ ap (λ (s : Due). line_at p k s bs) due
      ∙ at_whole p k (line_as p k) bs y.whole
      ∙ ap (λ (z : Verdict). on_verdict z (k + 1) (line_start p k) (shown_of p (line_start p k) (line_record p k bs))) v
      ∙ ap₂ (λ (m q : ℕ). Err (unshown.Refused (record { number = m; «record» = k + 1; place = line_start p k + q }))) n i
      ∙ ap (λ (r : Refusal). Err (unshown.Refused r)) (same_refusal x (y.ordinal ∙ sym (add-one k)) y.place)

-- ---- the view

module _ (bs : List ℕ) (k : ℕ) (x : Refusal) where
  pub view_to : view_of bs k ≡ Err (unshown.Refused x) → ViewRefuses bs k x
  unfolding view_of
  view_to e = go (first_of bs).stop refl e
    where
      at_line : ImageDescriptor (take 720 bs) (first_of bs).state.plan
          → LineRefused (first_of bs).state.plan.n (first_of bs).state.plan.l (first_of bs).state.plan.w (first_of bs).state.plan.sort k bs x →
          ViewRefuses bs k x
      at_line d (none h q) = outside (first_of bs).state.plan d h q
      at_line d (some y) = line (first_of bs).state.plan d y.least y.most y.whole y.at y.wrong y.ordinal y.place

      go : (s : Stop) → (first_of bs).stop ≡ s → behind_first s (line_of (first_of bs).state.plan k bs) ≡ Err (unshown.Refused x) → ViewRefuses bs k x
      go (stop.Wait n) q f = absurd (wait≢refused n x f)
      go stop.Pause q f = at_line (first_there bs q) (line_to (first_of bs).state.plan k bs x f)
      go stop.Complete q f = absurd (open_never_complete 1 (fresh plan.image) bs q)
      go (stop.Refused r) q f = let w = (first_refused image bs false x).0 (q ∙ ap stop.Refused (refused_same f)) in first w.0 w.1

  -- a line under the plan that the first record names, whatever plan the rules give it
  under : (p : Plan) → ImageDescriptor (take 720 bs) p → LineRefused p.n p.l p.w p.sort k bs x → view_of bs k ≡ Err (unshown.Refused x)
  unfolding view_of first_length
  under p d y =
      let q = (next_of (fresh plan.image) bs).plan in
      let same : Same image q p = first_same image bs p d in
      ap (λ (w : Walked). behind_first w.stop (line_of w.state.plan k bs)) (first_step image bs p d false)
      ∙ line_from q k bs x
      (subst (λ (n : ℕ). LineRefused n q.l q.w q.sort k bs x) (sym same.0)
      (subst (λ (l : ℕ). LineRefused p.n l q.w q.sort k bs x) (sym same.1)
      (subst (λ (w : ℕ). LineRefused p.n p.l w q.sort k bs x) (sym same.2)
      (subst (λ (i : ℕ). LineRefused p.n p.l p.w i k bs x) (sym same.5) y))))

  pub view_from : ViewRefuses bs k x → view_of bs k ≡ Err (unshown.Refused x)
  unfolding view_of
  view_from (first w o) = ap (λ (s : Stop). behind_first s (line_of (first_of bs).state.plan k bs)) ((first_refused image bs false x).1 (w, o))
  view_from (outside p d h e) = under p d (none h e)
  view_from (line p d a b h q w o e) =
      under p d (some (record { least = a; most = b; whole = h; at = q; wrong = w; ordinal = o; place = e }))

-- for any bytes and any line: refused so exactly where the rules say so
pub view_exactly : (bs : List ℕ) (k : ℕ) (x : Refusal) → (view_as (view_of bs k) ≡ refused_as x) ↔ ViewRefuses bs k x
view_exactly bs k x = (λ e. view_to bs k x (said.view_refused _ x e), λ y. ap view_as (view_from bs k x y))
