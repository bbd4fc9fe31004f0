-- `field_named`: a field's answer, in document 01's words, is the grammar's answer on its bytes: a value exactly where they are written with that value,
-- blank exactly where they are all blank, 6 exactly where they are neither, at their first bad byte; by what `decimal` and `bad_byte` have shown.
use Prim.Native.Nat.{ℕ, ◌+◌, ◌-◌, ◌≤◌, ◌<◌}
use mathlib.Core.Path.{◌≡◌, refl, sym, ap, ◌∙◌, subst}
use mathlib.Core.List.{List}
use mathlib.Core.Bool.{Bool, true, false}
use mathlib.Core.Logic.{◌↔◌}
use native.Mathlib.Omega.{arith}
use lib.Dec.{ltb}
use lib.ListN.{length, replicate, length-replicate, drop, length-drop}
use lib.Seq.{length-take-le}
use lib.IntN.{ℤ}
use borrow.Author.Tests.{ltb-true, ltb-false}
use Rattle.std.proofs.Common.{Some, None, Ok, Err}
use Rattle.words.specs.Words.{place_of}
use Rattle.words.specs.Tests.{within_of}
use Rattle.words.proofs.Laws.{within_true, within_false}
use Rattle.words.specs.Answer.{Answer, valued, bare, blank}
use Rattle.decimal.specs.Forms.{width_of, shape_of}
use Rattle.decimal.specs.Scan.{written}
use Rattle.decimal.specs.Grammar.{Good, blank as blanks, whole, fixed, expo, Means, well, badly}
use Rattle.decimal.specs.Grammar as grammar
use Rattle.decimal.specs.declared.Form.{Form}
use Rattle.decimal.specs.declared.Shape.{Shape}
use Rattle.decimal.specs.Written.{Written, number_written, blank as blank_written, badly as badly_written}
use Rattle.decimal.proofs.Answer.{says, reads, never}
use Rattle.bad_byte.specs.BadByte.{BadAt}
use Rattle.bad_byte.specs.Columns.{bad_in}
use Rattle.bad_byte.proofs.Named.{bad_named, bad_one, bad_never}
use Rattle.fields.specs.Field.{refuse, from_written, field_bytes, bad_place, field_at, field_as}
use Rattle.fields.specs.Listed.{listed, listed_field}
use Rattle.fields.proofs.Laws as laws

-- a refusal's answer
abbrev pub refusal : ℕ → ℕ → Answer
refusal n at = field_as (refuse n at)

-- two answers that are the same have the same word and the same numbers
word_of : {a b : Answer} → a ≡ b → a.word ≡ b.word
word_of q = ap (λ (x : Answer). x.word) q

numbers_of_lem : {a b : Answer} → a ≡ b → a.numbers ≡ b.numbers
numbers_of_lem q = ap (λ (x : Answer). x.numbers) q

-- what is written, in a field's words, leaves one case each
value_of : (at : ℕ) (w : Written) (m e : ℤ) → field_as (from_written at w) ≡ valued m e → w ≡ number_written m e
value_of at (Ok (Some x)) m e q =
    let n = numbers_of_lem q in
    let u : x.units ≡ m = cc in
    let v : x.exponent ≡ e = cc in
    ap (λ (i : ℤ). number_written i x.exponent) u ∙ ap (number_written m) v
value_of at (Ok None) m e q = let w = word_of q in cc
value_of at (Err x) m e q = let w = word_of q in cc

blank_of : (at : ℕ) (w : Written) → field_as (from_written at w) ≡ bare blank → w ≡ blank_written
blank_of at (Ok (Some x)) q = let w = word_of q in cc
blank_of at (Ok None) q = refl
blank_of at (Err x) q = let w = word_of q in cc

bad_of : (at : ℕ) (w : Written) (p : ℕ) → field_as (from_written at w) ≡ refusal 6 p → (w ≡ badly_written) × (at ≡ p)
bad_of at (Ok (Some x)) p q = let w = word_of q in absurd (let z : ◌≡◌ {A = ℕ} 0 1 = cc in omega arith)
bad_of at (Ok None) p q = let w = word_of q in absurd (let z : ◌≡◌ {A = ℕ} 0 1 = cc in omega arith)
bad_of at (Err x) p q = let w = numbers_of_lem q in (refl, cc)

-- nothing that is written is a refusal of another number
other_of : (at : ℕ) (w : Written) (n p : ℕ) → (n ≡ 6 → ⊥) → field_as (from_written at w) ≡ refusal n p → ⊥
other_of at (Ok (Some x)) n p h q = let w = word_of q in let z : ◌≡◌ {A = ℕ} 0 1 = cc in omega arith
other_of at (Ok None) n p h q = let w = word_of q in let z : ◌≡◌ {A = ℕ} 0 1 = cc in omega arith
other_of at (Err x) n p h q = let w = numbers_of_lem q in h cc

-- a refusal is no value and not blank, and two refusals that are the same have the same number
refusal_value : (n p : ℕ) (m e : ℤ) → refusal n p ≡ valued m e → ⊥
refusal_value n p m e q = let w = word_of q in let z : ◌≡◌ {A = ℕ} 0 1 = cc in omega arith

refusal_blank : (n p : ℕ) → refusal n p ≡ bare blank → ⊥
refusal_blank n p q = let w = word_of q in let z : ◌≡◌ {A = ℕ} 0 1 = cc in omega arith

refusal_number : (n p n' p' : ℕ) → refusal n p ≡ refusal n' p' → n ≡ n'
refusal_number n p n' p' q = let w = numbers_of_lem q in cc

-- all that is blank, and nothing else, is a blank field
all_blank : {s : Shape} {bs : List ℕ} {r : Written} → Good true s bs r → r ≡ blank_written → bs ≡ replicate (length bs) 32
all_blank (blanks s n) e = ap (λ (i : ℕ). replicate i 32) (sym (length-replicate {A = ℕ} n 32))
all_blank (whole w) e = cc
all_blank (fixed w) e = cc
all_blank (expo w g ds n l) e = cc

module _ (k : Form) (bs : List ℕ) where
  -- what was read, unless it is bad, is in the grammar
  of_read : (r : Written) → written k bs ≡ r → (r ≡ badly_written → ⊥) → grammar.WellWritten k bs r
  of_read r e n = go (written k bs) e (says k bs)
    where
      go : (x : Written) → x ≡ r → Means k bs x → grammar.WellWritten k bs r
      go x q (well f) = subst (grammar.WellWritten k bs) q f
      go x q (badly m) = absurd (n (sym q))

  none_of : written k bs ≡ badly_written → (r : Written) → grammar.WellWritten k bs r → ⊥
  none_of e r f = never f.1 (sym (reads k bs r f) ∙ e)

-- A field whose bytes are all there. `grammar.WellWritten k bs r` says that the bytes bs are well written with the form k and say r.
pub record Named (b : List ℕ) (at : ℕ) (k : Form) : Type 0 where
  pub value : (m e : ℤ) → (field_as (field_at b at k) ≡ valued m e) ↔ grammar.WellWritten k (field_bytes b at k) (number_written m e)
  pub blanked : (field_as (field_at b at k) ≡ bare blank) ↔ (field_bytes b at k ≡ replicate (width_of k) 32)
  pub refused : (p : ℕ) → (field_as (field_at b at k) ≡ refusal 6 p) ↔ ((i : ℕ) × (p ≡ at + i) × BadAt (shape_of k) (width_of k) (field_bytes b at k) i)
  pub either : ((p : ℕ) × (field_as (field_at b at k) ≡ refusal 6 p)) ↔ ((r : Written) → grammar.WellWritten k (field_bytes b at k) r → ⊥)
  pub no_other : (n p : ℕ) → (n ≡ 6 → ⊥) → field_as (field_at b at k) ≡ refusal n p → ⊥

module _ (b : List ℕ) (at : ℕ) (k : Form) (here : at + width_of k ≤ length b) where
  bs_length : length (field_bytes b at k) ≡ width_of k
  bs_length = length-take-le (width_of k) (drop at b) (rw length-drop (omega arith))

  told : field_as (field_at b at k) ≡ field_as (from_written (bad_place b at k) (written k (field_bytes b at k)))
  told = ap field_as (laws.whole b at k here)

  -- what is written there is the answer
  answered : {r : Written} → written k (field_bytes b at k) ≡ r → field_as (field_at b at k) ≡ field_as (from_written (bad_place b at k) r)
  answered e = told ∙ ap (λ (w : Written). field_as (from_written (bad_place b at k) w)) e

  -- where nothing is well written, that is what is read
  nothing : ((r : Written) → grammar.WellWritten k (field_bytes b at k) r → ⊥) → written k (field_bytes b at k) ≡ badly_written
  nothing n = go (written k (field_bytes b at k)) (says k (field_bytes b at k))
    where
      go : (x : Written) → Means k (field_bytes b at k) x → x ≡ badly_written
      go x (well f) = absurd (n x f)
      go x (badly m) = refl

  -- the place of a 6 is that of the first bad byte
  pointed : written k (field_bytes b at k) ≡ badly_written → BadAt (shape_of k) (width_of k) (field_bytes b at k) (bad_in (shape_of k) (field_bytes b at k))
  pointed e =
      subst (λ (n : ℕ). BadAt (shape_of k) n (field_bytes b at k) (bad_in (shape_of k) (field_bytes b at k))) bs_length
      (bad_named (shape_of k) (field_bytes b at k) (λ r g. none_of k (field_bytes b at k) e r (bs_length, g)))

  unwritten : (i : ℕ) → BadAt (shape_of k) (width_of k) (field_bytes b at k) i → (r : Written) → grammar.WellWritten k (field_bytes b at k) r → ⊥
  unwritten i x r w = bad_never (shape_of k) (field_bytes b at k) i w.1 (subst (λ (n : ℕ). BadAt (shape_of k) n (field_bytes b at k) i) (sym bs_length) x)

  -- the same where nothing is well written
  pub bad_here : ((r : Written) → grammar.WellWritten k (field_bytes b at k) r → ⊥)
      → BadAt (shape_of k) (width_of k) (field_bytes b at k) (bad_in (shape_of k) (field_bytes b at k))
  bad_here n = pointed (nothing n)

  -- and a field with a first bad byte is refused there
  pub six_here : (i : ℕ) → BadAt (shape_of k) (width_of k) (field_bytes b at k) i → field_at b at k ≡ refuse 6 (at + i)
  six_here i x =
      let e = nothing (unwritten i x) in
      laws.whole b at k here ∙ ap (from_written (bad_place b at k)) e
      ∙ ap (λ (j : ℕ). refuse 6 (at + j)) (bad_one (shape_of k) (width_of k) (field_bytes b at k) _ i (pointed e) x)

  pub field_named : Named b at k
  field_named =
      record {
        value = λ m e. (
          λ q. of_read k (field_bytes b at k) (number_written m e) (value_of (bad_place b at k) _ m e (sym told ∙ q))
              (λ z. let c : ◌≡◌ {A = ℕ} 0 1 = cc in omega arith),
          λ f. answered (reads k (field_bytes b at k) (number_written m e) f),
        );
        blanked = (
          λ q.
              let f = of_read k (field_bytes b at k) blank_written (blank_of (bad_place b at k) _ (sym told ∙ q))
              (λ z. let c : ◌≡◌ {A = ℕ} 0 1 = cc in omega arith) in
              all_blank f.1 refl ∙ ap (λ (i : ℕ). replicate i 32) bs_length,
          λ e. answered
              (reads k (field_bytes b at k) blank_written
              (bs_length, subst (λ (l : List ℕ). Good true (shape_of k) l blank_written) (sym e) (blanks (shape_of k) (width_of k)))),
        );
        refused = λ p. (
          λ q. let o = bad_of (bad_place b at k) _ p (sym told ∙ q) in (bad_in (shape_of k) (field_bytes b at k), sym o.1, pointed o.0),
          λ x. ap field_as (six_here x.0 x.2) ∙ ap (refusal 6) (sym x.1),
        );
        either = (
          λ q. none_of k (field_bytes b at k) (bad_of (bad_place b at k) _ q.0 (sym told ∙ q.1)).0,
          λ n. (bad_place b at k, answered (nothing n)),
        );
        no_other = λ n p h q. other_of (bad_place b at k) (written k (field_bytes b at k)) n p h (sym told ∙ q);
      }

-- `listed_named`: the field reader. 14 exactly where there is no such listed field; 2 exactly where there is one and the bytes end before it does; else it
-- is named as above.
pub record ListedNamed (b : List ℕ) (n : ℕ) : Type 0 where
  pub unlisted : (field_as (listed_field b n) ≡ refusal 14 0) ↔ ((1 ≤ n) × (n ≤ 13) → ⊥)
  pub short : (field_as (listed_field b n) ≡ refusal 2 0) ↔ ((1 ≤ n) × (n ≤ 13) × (length b < place_of (listed (n - 1)).first + width_of (listed (n - 1)).form))
  pub whole : (1 ≤ n) × (n ≤ 13) → place_of (listed (n - 1)).first + width_of (listed (n - 1)).form ≤ length b
      → (listed_field b n ≡ field_at b (place_of (listed (n - 1)).first) (listed (n - 1)).form) × Named b (place_of (listed (n - 1)).first)
      (listed (n - 1)).form

-- a field is short or whole: which refusals it can give
module _ (b : List ℕ) (at : ℕ) (k : Form) where
  at_14 : field_as (field_at b at k) ≡ refusal 14 0 → ⊥
  at_14 q = go (ltb (length b) (at + width_of k)) refl
    where
      go : (t : Bool) → ltb (length b) (at + width_of k) ≡ t → ⊥
      go true e = let z = refusal_number 2 0 14 0 (sym (ap field_as (laws.short b at k (ltb-true _ _ e))) ∙ q) in omega arith
      go false e = (field_named b at k (ltb-false _ _ e)).no_other 14 0 (λ z. omega arith) q

  at_2 : field_as (field_at b at k) ≡ refusal 2 0 → length b < at + width_of k
  at_2 q = go (ltb (length b) (at + width_of k)) refl
    where
      go : (t : Bool) → ltb (length b) (at + width_of k) ≡ t → length b < at + width_of k
      go true e = ltb-true _ _ e
      go false e = absurd ((field_named b at k (ltb-false _ _ e)).no_other 2 0 (λ z. omega arith) q)

pub listed_named : (b : List ℕ) (n : ℕ) → ListedNamed b n
listed_named b n = go (within_of 1 n 13) refl
  where
    at : ℕ
    at = place_of (listed (n - 1)).first

    k : Form
    k = (listed (n - 1)).form

    out : listed_field b n ≡ refuse 14 0 → ((1 ≤ n) × (n ≤ 13) → ⊥) → ListedNamed b n
    out q h =
        record {
          unlisted = (λ _. h, λ _. ap field_as q);
          short = (λ z. let y = refusal_number 14 0 2 0 (sym (ap field_as q) ∙ z) in absurd (omega arith), λ z. absurd (h (z.0, z.1)));
          whole = λ z l. absurd (h z);
        }

    go : (x : Bool) → within_of 1 n 13 ≡ x → ListedNamed b n
    go true e =
        let q = laws.inside b n e in
        let i : (1 ≤ n) × (n ≤ 13) = within_true 1 n 13 e in
        record {
          unlisted = (λ z. absurd (at_14 b at k (sym (ap field_as q) ∙ z)), λ h. absurd (h i));
          short = (λ z. (i.0, i.1, at_2 b at k (sym (ap field_as q) ∙ z)), λ z. ap field_as (q ∙ laws.short b at k z.2));
          whole = λ z l. (q, field_named b at k l);
        }
    go false e = out (laws.unlisted b n e) (within_false 1 n 13 e)
