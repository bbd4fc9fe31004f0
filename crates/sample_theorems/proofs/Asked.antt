-- To ask for a sample, its power or a complex row is refused exactly where `Questions` says so: each by the cases of its own definition, over what is shown of
-- the line view; and a refused row stays.
use Prim.Native.Nat.{ℕ, ◌+◌, ◌*◌, ◌≤◌, ◌<◌}
use mathlib.Core.Path.{◌≡◌, refl, sym, ap, ap₂, ◌∙◌}
use mathlib.Core.Logic.{◌↔◌, ◌⊎◌, inl, inr}
use mathlib.Core.List.{List, ◌++◌}
use mathlib.Core.Bool.{Bool, true, false}
use native.Mathlib.Omega.{arith}
use lib.Dec.{ltb, eqb}
use lib.ListN.{length, drop}
use borrow.Author.Tests.{ltb-true, lt-ltb, le-ltb, eqb-true, eqb-false, eq-eqb, ne_eqb}
use Rattle.words.specs.Tests.{pick}
use Rattle.words.specs.Words.{four_at}
use Rattle.words.specs.Answer.{bare_refusal, refused_as}
use Rattle.words.specs.declared.Refusal.{Refusal}
use Rattle.floats.specs.Floats.{float_of, all_finite}
use Rattle.floats.proofs.Laws.{why_none}
use Rattle.plan.specs.declared.Plan.{Plan}
use Rattle.std.specs.Prelude.{Ok, Err}
use Rattle.lines.specs.View.{View, view_of, sort_seen}
use Rattle.lines.specs.Said.{unshown_as}
use Rattle.lines.specs.declared.Unshown.{Unshown}
use Rattle.lines.specs.declared.Unshown.TheVariants.{Refused}
use Rattle.copies.specs.Row.{Copied}
use Rattle.copies.specs.Said.{copied_as}
use Rattle.samples.specs.Samples.{Patterned, Powered, is_complex, place_in, patterned_by, on_power, powered_by}
use Rattle.samples.specs.Asked.{pattern_of, power_of}
use Rattle.samples.specs.Said.{patterned_as, powered_as}
use Rattle.samples.specs.declared.Sample.TheVariants.{Count, Complex}
use Rattle.samples.proofs.RefusalLaws.{sample_refusal, power_refusal}
use Rattle.complex_rows.specs.Parts.{parts, parts_copied_by, parts_row_by, parts_copied, parts_row}
use Rattle.promises.specs.Shown.{line_record, Stands, data_count, data_pixels, LineShown}
use Rattle.promises.proofs.LineNamed.{line_named, stands_shown, sort_seen_lem}
use Rattle.refusals.proofs.Viewed.{view_to, view_from}
use Rattle.refusals.proofs.Said.{other, view_refused, copy_refused}
use Rattle.sample_theorems.specs.Named.{real, imaginary}
use Rattle.sample_theorems.specs.Questions.{SampleRefuses, NotFinite, PowerRefuses, PartsRefuses, row, endless}
use Rattle.sample_theorems.specs.Questions as questions
use Rattle.sample_theorems.proofs.Named.{real_there, imaginary_there, power_said}

-- ---- a refusal in words stands for one case

unshown_refused : (y : Unshown) (x : Refusal) → unshown_as y ≡ refused_as x → y ≡ Refused x
unshown_refused y x e = let v = view_refused (Err y) x e in cc

pattern_refused : (y : Patterned) (x : Refusal) → patterned_as y ≡ refused_as x → y ≡ Err (Refused x)
pattern_refused (Ok (Count n)) x e = absurd (other x (λ w. cc) e)
pattern_refused (Ok (Complex a b)) x e = absurd (other x (λ w. cc) e)
pattern_refused (Err y) x e = ap (λ (z : Unshown). Err z) (unshown_refused y x e)

power_refused : (y : Powered) (x : Refusal) → powered_as y ≡ refused_as x → y ≡ Err (Refused x)
power_refused (Ok n) x e = absurd (other x (λ w. cc) e)
power_refused (Err y) x e = ap (λ (z : Unshown). Err z) (unshown_refused y x e)

-- the sort that is seen is complex exactly where the plan's is
complex_is : (bs : List ℕ) (k : ℕ) (p : Plan) → Stands bs k p → is_complex (sort_seen bs) ≡ eqb p.sort 1
complex_is bs k p t = ap is_complex (sort_seen_lem bs p t.first)

-- ---- a sample

module _ (bs : List ℕ) (k i : ℕ) (x : Refusal) where
  sample_to : pattern_of bs k i ≡ Err (Refused x) → SampleRefuses bs k i x
  unfolding pattern_of
  sample_to e = go (view_of bs k) refl e
    where
      go : (v : View) → view_of bs k ≡ v → patterned_by v (sort_seen bs) bs i ≡ Err (Refused x) → SampleRefuses bs k i x
      go (Ok v) q f =
          let (p, t, (a, c, l)) = (line_named bs k v.start v.count v.left).0 q in
          let r = sample_refusal v (sort_seen bs) bs i x f in
          questions.outside p t (omega (arith, c, r.0)) r.1
      go (Err y) q f = questions.view (view_to bs k x (q ∙ ap (λ (z : Unshown). Err z) cc))

  sample_from : SampleRefuses bs k i x → pattern_of bs k i ≡ Err (Refused x)
  unfolding pattern_of
  sample_from (questions.view y) = ap (λ (v : View). patterned_by v (sort_seen bs) bs i) (view_from bs k x y)
  sample_from (questions.outside p t h e) =
      ap (λ (v : View). patterned_by v (sort_seen bs) bs i) (stands_shown bs k p t)
      ∙ (simp (le-ltb i (data_count (line_record p k bs)) h))
      ∙ ap (λ (r : Refusal). Err (Refused r)) (sym e)

pub sample_exactly : (bs : List ℕ) (k i : ℕ) (x : Refusal) → (patterned_as (pattern_of bs k i) ≡ refused_as x) ↔ SampleRefuses bs k i x
sample_exactly bs k i x = (λ e. sample_to bs k i x (pattern_refused _ x e), λ y. ap patterned_as (sample_from bs k i x y))

-- ---- a power

module _ (bs : List ℕ) (k i : ℕ) (x : Refusal) where
  power_to : power_of bs k i ≡ Err (Refused x) → PowerRefuses bs k i x
  unfolding power_of
  power_to e = go (view_of bs k) refl e
    where
      shown : (start count left : ℕ) → LineShown bs k start count left
          → ((is_complex (sort_seen bs) ≡ false) × (x ≡ bare_refusal 23))
          ⊎ (((is_complex (sort_seen bs) ≡ true) × (count ≤ i) × (x ≡ bare_refusal 36))
          ⊎ ((is_complex (sort_seen bs) ≡ true)
          × (i < count)
          × (all_finite (float_of (four_at bs (place_in start (sort_seen bs) i))) (float_of (four_at bs (place_in start (sort_seen bs) i + 4))) ≡ false)
          × (x ≡ bare_refusal 24)))
          → PowerRefuses bs k i x
      shown start count left (p, t, (a, c, l)) (inl (s, q)) =
          questions.sort p t (eqb-false p.sort 1 (sym (complex_is bs k p t) ∙ s)) q
      shown start count left (p, t, (a, c, l)) (inr (inl (s, h, q))) =
          questions.outside p t (eqb-true p.sort 1 (sym (complex_is bs k p t) ∙ s)) (omega (arith, c)) q
      shown start count left (p, t, (a, c, l)) (inr (inr (s, h, f, q))) =
          let one = eqb-true p.sort 1 (sym (complex_is bs k p t) ∙ s) in
          let j = sort_seen_lem bs p t.first ∙ one in
          let h' : i < data_count (line_record p k bs) = omega (arith, c) in
          let re = ap₂ (λ (n m : ℕ). four_at bs (place_in n m i)) a j ∙ real_there bs k p t one i h' in
          let im = ap₂ (λ (n m : ℕ). four_at bs (place_in n m i + 4)) a j ∙ imaginary_there bs k p t one i h' in
          endless p t one h' (ap₂ (λ (m n : ℕ). all_finite (float_of m) (float_of n)) (sym re) (sym im) ∙ f) q

      go : (v : View) → view_of bs k ≡ v → powered_by v (sort_seen bs) bs i ≡ Err (Refused x) → PowerRefuses bs k i x
      go (Ok v) q f =
          shown v.start v.count v.left ((line_named bs k v.start v.count v.left).0 q) (power_refusal v (sort_seen bs) bs i x f)
      go (Err y) q f = questions.view (view_to bs k x (q ∙ ap (λ (z : Unshown). Err z) cc))

  power_from : PowerRefuses bs k i x → power_of bs k i ≡ Err (Refused x)
  unfolding power_of
  power_from (questions.view y) = ap (λ (v : View). powered_by v (sort_seen bs) bs i) (view_from bs k x y)
  power_from (questions.sort p t n e) =
      ap (λ (v : View). powered_by v (sort_seen bs) bs i) (stands_shown bs k p t)
      ∙ (simp (complex_is bs k p t ∙ ne_eqb p.sort 1 n))
      ∙ ap (λ (r : Refusal). Err (Refused r)) (sym e)
  power_from (questions.outside p t s h e) =
      ap (λ (v : View). powered_by v (sort_seen bs) bs i) (stands_shown bs k p t)
      ∙ (simp (complex_is bs k p t ∙ eq-eqb p.sort 1 s, le-ltb i (data_count (line_record p k bs)) h))
      ∙ ap (λ (r : Refusal). Err (Refused r)) (sym e)
  power_from (endless p t s h f e) =
      let px = data_pixels p (line_record p k bs) in
      power_said bs k p t s i h ∙ ap on_power (why_none (real px i) (imaginary px i) f) ∙ ap (λ (r : Refusal). Err (Refused r)) (sym e)

pub power_exactly : (bs : List ℕ) (k i : ℕ) (x : Refusal) → (powered_as (power_of bs k i) ≡ refused_as x) ↔ PowerRefuses bs k i x
power_exactly bs k i x = (λ e. power_to bs k i x (power_refused _ x e), λ y. ap powered_as (power_from bs k i x y))

-- ---- a complex row

module _ (bs : List ℕ) (k m : ℕ) (x : Refusal) where
  parts_to : parts_copied bs k m ≡ Err (Refused x) → PartsRefuses bs k m x
  unfolding parts_copied
  parts_to e = go (view_of bs k) refl e
    where
      shown : (start count left : ℕ) → LineShown bs k start count left → (a b : Bool) → is_complex (sort_seen bs) ≡ a → ltb m (2 * count) ≡ b
          → ◌≡◌ {A = Copied} (pick a (pick b (Err (Refused (bare_refusal 15))) (Ok count)) (Err (Refused (bare_refusal 23)))) (Err (Refused x))
          → PartsRefuses bs k m x
      shown start count left (p, t, (z, c, l)) false b ea eb f =
          questions.sort p t (eqb-false p.sort 1 (sym (complex_is bs k p t) ∙ ea)) (sym cc)
      shown start count left (p, t, (z, c, l)) true true ea eb f =
          let h = ltb-true m (2 * count) eb in
          row p t (eqb-true p.sort 1 (sym (complex_is bs k p t) ∙ ea)) (omega (arith, c)) (sym cc)
      shown start count left (p, t, (z, c, l)) true false ea eb f = absurd cc

      go : (v : View) → view_of bs k ≡ v → parts_copied_by v (sort_seen bs) m ≡ Err (Refused x) → PartsRefuses bs k m x
      go (Ok v) q f =
          shown v.start v.count v.left ((line_named bs k v.start v.count v.left).0 q) (is_complex (sort_seen bs)) (ltb m (2 * v.count)) refl refl f
      go (Err y) q f = questions.view (view_to bs k x (q ∙ ap (λ (z : Unshown). Err z) cc))

  parts_from : PartsRefuses bs k m x → parts_copied bs k m ≡ Err (Refused x)
  unfolding parts_copied
  parts_from (questions.view y) = ap (λ (v : View). parts_copied_by v (sort_seen bs) m) (view_from bs k x y)
  parts_from (questions.sort p t n e) =
      ap (λ (v : View). parts_copied_by v (sort_seen bs) m) (stands_shown bs k p t)
      ∙ (simp (complex_is bs k p t ∙ ne_eqb p.sort 1 n))
      ∙ ap (λ (r : Refusal). Err (Refused r)) (sym e)
  parts_from (row p t s h e) =
      ap (λ (v : View). parts_copied_by v (sort_seen bs) m) (stands_shown bs k p t)
      ∙ (simp (complex_is bs k p t ∙ eq-eqb p.sort 1 s, lt-ltb m (2 * data_count (line_record p k bs)) h))
      ∙ ap (λ (r : Refusal). Err (Refused r)) (sym e)

pub parts_exactly : (bs : List ℕ) (k m : ℕ) (x : Refusal) → (copied_as (parts_copied bs k m) ≡ refused_as x) ↔ PartsRefuses bs k m x
parts_exactly bs k m x = (λ e. parts_to bs k m x (copy_refused _ x e), λ y. ap copied_as (parts_from bs k m x y))

-- on a wait or a refusal every number of the row stays
pub parts_kept : (bs : List ℕ) (k : ℕ) (old : List ℕ) → ((n : ℕ) → parts_copied bs k (length old) ≡ Ok n → ⊥) → parts_row bs k old ≡ old
unfolding parts_copied parts_row
parts_kept bs k old h = go (view_of bs k) (is_complex (sort_seen bs)) refl h
  where
    said : Bool → ℕ → Copied
    said b count = pick b (Err (Refused (bare_refusal 15))) (Ok count)

    fit : (count : ℕ) (new : List ℕ) (b : Bool) → ((n : ℕ) → said b count ≡ Ok n → ⊥) → pick b old new ≡ old
    fit count new true f = refl
    fit count new false f = absurd (f count refl)

    go : (v : View) (b : Bool) → is_complex (sort_seen bs) ≡ b → ((n : ℕ) → parts_copied_by v (sort_seen bs) (length old) ≡ Ok n → ⊥)
        → parts_row_by v (sort_seen bs) bs old ≡ old
    go (Ok v) true e f =
        let new = parts bs v.start v.count ++ drop (2 * v.count) old in
        let short = ltb (length old) (2 * v.count) in
        ap (λ (b : Bool). pick b (pick short old new) old) e
        ∙ fit v.count new short (λ n q. f n (ap (λ (b : Bool). pick b (said short v.count) (Err (Refused (bare_refusal 23)))) e ∙ q))
    go (Ok v) false e f =
        ap (λ (b : Bool). pick b (pick (ltb (length old) (2 * v.count)) old (parts bs v.start v.count ++ drop (2 * v.count) old)) old) e
    go (Err y) b e f = refl
