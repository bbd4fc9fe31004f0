-- To begin, to walk with a state, to copy a row and to read a field are refused exactly where `Questions` says so: each by the cases of its own
-- definition, over what is shown of the walk and of the line view.
use Prim.Native.Nat.{ℕ, ◌+◌, ◌≤◌}
use mathlib.Core.Path.{◌≡◌, refl, sym, ap, ◌∙◌}
use mathlib.Core.Logic.{◌↔◌, ◌⊎◌, inl, inr}
use mathlib.Core.List.{List}
use mathlib.Core.Bool.{Bool, true, false, false≢true}
use native.Mathlib.Omega.{arith}
use lib.Dec.{ltb, eqb}
use lib.ListN.{length}
use borrow.Author.Tests.{ltb-true, ltb-false, lt-ltb, eqb-true, eqb-false, eq-eqb, ne_eqb}
use Rattle.std.specs.Prelude.{Result, Ok, Err, Some, None}
use Rattle.words.specs.Tests.{pick, within_of}
use Rattle.words.specs.Words.{place_of}
use Rattle.words.specs.Answer.{bare_refusal, refusal_at, refused_as}
use Rattle.words.specs.declared.Refusal.{Refusal}
use Rattle.words.proofs.Laws.{within_true, within_false, true_within, cases}
use Rattle.decimal.specs.Written.{Written}
use Rattle.decimal.specs.Forms.{width_of}
use Rattle.decimal.proofs.Answer as answer
use Rattle.fields.specs.Field.{refuse, bad_place, field_at, field_as}
use Rattle.fields.specs.declared.Field.{Field}
use Rattle.fields.specs.declared.Field.TheVariants as field
use Rattle.fields.proofs.Named.{bad_here, six_here}
use Rattle.fields.specs.Listed.{listed_field}
use Rattle.fields.proofs.Laws as laws
use Rattle.plan.specs.Tables.{rows}
use Rattle.turns.specs.declared.Stop.TheVariants as stop
use Rattle.walk.specs.State.{fresh, good_state}
use Rattle.walk.specs.Said.{stop_as, beginning_as}
use Rattle.walk.specs.Walk.{begin_of, walk_of}
use Rattle.walk.specs.declared.State.{State}
use Rattle.walk.specs.declared.Walked.{Walked}
use Rattle.lines.specs.View.{View, shown_view, view_of, sort_seen}
use Rattle.copies.specs.Row.{Copied, copied_by, copied_of}
use Rattle.copies.specs.Said.{copied_as}
use Rattle.lines.specs.declared.Unshown.{Unshown}
use Rattle.lines.specs.declared.Unshown.TheVariants as unshown
use Rattle.promises.specs.Newest.{Says}
use Rattle.promises.specs.Shown.{line_record, data_count}
use Rattle.promises.proofs.Parts.{reading, by_means}
use Rattle.promises.proofs.Turns as turns
use Rattle.promises.proofs.Counted.{bad_kept}
use Rattle.promises.proofs.Eleven.{eleven}
use Rattle.promises.proofs.LineNamed.{line_named, stands_shown, sort_seen_lem}
use Rattle.first_records.specs.StateRule.{AllowedState}
use Rattle.first_records.proofs.StateRule.{state_rule}
use Rattle.refusals.specs.Questions.{BeginRefuses, StateRefuses, CopyRefuses, sort, row, FieldRefuses, unlisted, short, badly, byte_of, form_of}
use Rattle.refusals.specs.Questions as questions
use Rattle.refusals.proofs.Said as said
use Rattle.refusals.proofs.Viewed.{view_to, view_from}

-- ---- 1: to begin

pub begin_exactly : (kind : ℕ) (x : Refusal) → (beginning_as (begin_of kind) ≡ refused_as x) ↔ BeginRefuses kind x
unfolding begin_of
begin_exactly kind x = (λ e. to (within_of 1 kind 4) refl (said.begun_refused _ x e), λ h. from (within_of 1 kind 4) refl h)
  where
    begun : Bool → Result State Refusal
    begun b = pick b (Ok (fresh kind)) (Err (bare_refusal 1))

    to : (b : Bool) → within_of 1 kind 4 ≡ b → begun b ≡ Err x → BeginRefuses kind x
    to true q e = absurd cc
    to false q e = record { unknown = within_false 1 kind 4 q; is = cc }

    from : (b : Bool) → within_of 1 kind 4 ≡ b → BeginRefuses kind x → beginning_as (begun b) ≡ refused_as x
    from true q h = absurd (h.unknown (within_true 1 kind 4 q))
    from false q h = ap refused_as (sym h.is)

-- ---- 11: with a state

pub state_exactly : (b : ℕ) (st : State) (bs : List ℕ) (c : Bool) → length st.plan.counts ≡ rows → length st.plan.lengths ≡ rows → (x : Refusal)
    → ((stop_as (walk_of b st bs c).stop ≡ refused_as x) × (x.number ≡ 11)) ↔ StateRefuses st x
state_exactly b st bs c cl ll x = (
  λ (e, n).
      let g = (eleven b st bs c).0 (x, said.said_refused _ x e, n) in
      record { broken = λ a. false≢true (sym g ∙ (state_rule st cl ll).1 a); is = sym (told g (said.said_refused _ x e)) },
  λ h. (ap stop_as (stops (bad (cases (good_state st)) h.broken)) ∙ ap refused_as (sym h.is), ap (λ (y : Refusal). y.number) h.is),
)
  where
    stops : good_state st ≡ false → (walk_of b st bs c).stop ≡ stop.Refused (bare_refusal 11)
    stops g = ap (λ (w : Walked). w.stop) (bad_kept b st bs c g)

    told : good_state st ≡ false → (walk_of b st bs c).stop ≡ stop.Refused x → bare_refusal 11 ≡ x
    told g e = turns.refused_same (sym (stops g) ∙ e)

    bad : (good_state st ≡ true) ⊎ (good_state st ≡ false) → (AllowedState st → ⊥) → good_state st ≡ false
    bad (inl g) h = absurd (h ((state_rule st cl ll).0 g))
    bad (inr g) h = g

-- ---- 23 and 15: a row

module _ (bs : List ℕ) (k m : ℕ) (x : Refusal) where
  copy_to : copied_of bs k m ≡ Err (unshown.Refused x) → CopyRefuses bs k m x
  unfolding copied_of
  copy_to e = go (view_of bs k) refl e
    where
      counts : (start count left : ℕ) → view_of bs k ≡ shown_view start count left → sort_seen bs ≡ 0 → (b : Bool) → ltb m count ≡ b
          → ◌≡◌ {A = Copied} (pick b (Err (unshown.Refused (bare_refusal 15))) (Ok count)) (Err (unshown.Refused x)) → CopyRefuses bs k m x
      counts start count left q z true h f =
          let (p, t, (a, c, l)) = (line_named bs k start count left).0 q in
          let r = ltb-true m count h in
          row p t (sym (sort_seen_lem bs p t.first) ∙ z) (omega (arith, c)) (sym cc)
      counts start count left q z false h f = absurd cc

      shown : (start count left : ℕ) → view_of bs k ≡ shown_view start count left → (b : Bool) → eqb (sort_seen bs) 0 ≡ b
          → ◌≡◌ {A = Copied} (pick b (pick (ltb m count) (Err (unshown.Refused (bare_refusal 15))) (Ok count)) (Err (unshown.Refused (bare_refusal 23))))
          (Err (unshown.Refused x)) → CopyRefuses bs k m x
      shown start count left q true z f = counts start count left q (eqb-true (sort_seen bs) 0 z) (ltb m count) refl f
      shown start count left q false z f =
          let (p, t, n) = (line_named bs k start count left).0 q in
          sort p t (λ e. eqb-false (sort_seen bs) 0 z (sort_seen_lem bs p t.first ∙ e)) (sym cc)

      go : (v : View) → view_of bs k ≡ v → copied_by v (sort_seen bs) m ≡ Err (unshown.Refused x) → CopyRefuses bs k m x
      go (Ok v) q f = shown v.start v.count v.left q (eqb (sort_seen bs) 0) refl f
      go (Err y) q f = questions.view (view_to bs k x (q ∙ ap (λ (z : Unshown). Err z) cc))

  copy_from : CopyRefuses bs k m x → copied_of bs k m ≡ Err (unshown.Refused x)
  unfolding copied_of
  copy_from (questions.view y) = ap (λ (v : View). copied_by v (sort_seen bs) m) (view_from bs k x y)
  copy_from (sort p t n e) =
      ap (λ (v : View). copied_by v (sort_seen bs) m) (stands_shown bs k p t)
      ∙ (simp (ne_eqb (sort_seen bs) 0 (λ z. n (sym (sort_seen_lem bs p t.first) ∙ z))))
      ∙ ap (λ (r : Refusal). Err (unshown.Refused r)) (sym e)
  copy_from (row p t z h e) =
      ap (λ (v : View). copied_by v (sort_seen bs) m) (stands_shown bs k p t)
      ∙ (simp (eq-eqb (sort_seen bs) 0 (sort_seen_lem bs p t.first ∙ z), lt-ltb m (data_count (line_record p k bs)) h))
      ∙ ap (λ (r : Refusal). Err (unshown.Refused r)) (sym e)

pub copy_exactly : (bs : List ℕ) (k m : ℕ) (x : Refusal) → (copied_as (copied_of bs k m) ≡ refused_as x) ↔ CopyRefuses bs k m x
copy_exactly bs k m x = (λ e. copy_to bs k m x (said.copy_refused _ x e), λ y. ap copied_as (copy_from bs k m x y))

-- ---- 14: a listed field

module _ (b : List ℕ) (n : ℕ) (x : Refusal) where
  refuse_same : (m at : ℕ) → refuse m at ≡ field.Refused x → x ≡ refusal_at m at
  refuse_same m at e = sym cc

  field_to : listed_field b n ≡ field.Refused x → FieldRefuses b n x
  field_to e = go (within_of 1 n 13) refl
    where
      there : (h : place_of (byte_of n) + width_of (form_of n) ≤ length b) → 1 ≤ n → n ≤ 13
          → field_at b (place_of (byte_of n)) (form_of n) ≡ field.Refused x → FieldRefuses b n x
      there h a c =
          by_means b (byte_of n) (form_of n) h (λ (f : Field). f ≡ field.Refused x → FieldRefuses b n x) well
          (λ none q. badly a c h _ (bad_here b (place_of (byte_of n)) (form_of n) h none) (refuse_same 6 (bad_place b (place_of (byte_of n)) (form_of n)) q))
        where
          well : (w : Written) → Says b (byte_of n) (form_of n) w → reading b (byte_of n) (form_of n) w ≡ field.Refused x → FieldRefuses b n x
          well (Ok (Some v)) s q = absurd cc
          well (Ok None) s q = absurd cc
          well (Err y) s q = absurd (answer.never s.1 refl)

      held : (1 ≤ n) × (n ≤ 13) → (t : Bool) → ltb (length b) (place_of (byte_of n) + width_of (form_of n)) ≡ t
          → field_at b (place_of (byte_of n)) (form_of n) ≡ field.Refused x → FieldRefuses b n x
      held i true q f =
          let h = ltb-true (length b) (place_of (byte_of n) + width_of (form_of n)) q in
          short i.0 i.1 h (refuse_same 2 0 (sym (laws.short b (place_of (byte_of n)) (form_of n) h) ∙ f))
      held i false q f = there (ltb-false (length b) (place_of (byte_of n) + width_of (form_of n)) q) i.0 i.1 f

      go : (t : Bool) → within_of 1 n 13 ≡ t → FieldRefuses b n x
      go true q = held (within_true 1 n 13 q) (ltb (length b) (place_of (byte_of n) + width_of (form_of n))) refl (sym (laws.inside b n q) ∙ e)
      go false q = unlisted (within_false 1 n 13 q) (refuse_same 14 0 (sym (laws.unlisted b n q) ∙ e))

  field_from : FieldRefuses b n x → listed_field b n ≡ field.Refused x
  field_from (unlisted h e) = laws.unlisted b n (out (within_of 1 n 13) refl) ∙ ap field.Refused (sym e)
    where
      out : (t : Bool) → within_of 1 n 13 ≡ t → within_of 1 n 13 ≡ false
      out true q = absurd (h (within_true 1 n 13 q))
      out false q = q
  field_from (short a c h e) =
      laws.inside b n (true_within 1 n 13 a c) ∙ laws.short b (place_of (byte_of n)) (form_of n) h ∙ ap field.Refused (sym e)
  field_from (badly a c h i z e) =
      laws.inside b n (true_within 1 n 13 a c) ∙ six_here b (place_of (byte_of n)) (form_of n) h i z ∙ ap field.Refused (sym e)

pub field_exactly : (b : List ℕ) (n : ℕ) (x : Refusal) → (field_as (listed_field b n) ≡ refused_as x) ↔ FieldRefuses b n x
field_exactly b n x = (λ e. field_to b n x (said.field_refused _ x e), λ y. ap field_as (field_from b n x y))
