-- The tests of a record's parts say exactly the rules of `Rules`: a text, a header, a number field, a listed field and a leader's pair, each by the
-- cases of what the bytes say.
use Prim.Native.Nat.{ℕ, zero, suc, ◌+◌, ◌≤◌, ◌<◌}
use mathlib.Core.Path.{◌≡◌, refl, sym, ap, ap₂, ◌∙◌, subst, subst₂}
use mathlib.Core.List.{List, [], ◌∷◌}
use mathlib.Core.Bool.{Bool, true, false, false≢true}
use mathlib.Core.Logic.{◌↔◌, ◌⊎◌, inl, inr}
use native.Mathlib.Omega.{arith}
use native.Mathlib.Numerals.{add-one}
use lib.Dec.{eqb}
use lib.IntN.{ℤ, pos, negsuc}
use lib.ListN.{length, take, drop}
use lib.Seq.{drop-cons, get_or-take}
use borrow.Author.Tests.{eqb-true, eqb-false, eq-eqb, ne_eqb}
use Rattle.std.specs.Prelude.{Ok, Err, Some, None}
use Rattle.words.specs.Tests.{pick, both_of}
use Rattle.words.specs.Words.{byte_at, two_at, four_at, place_of}
use Rattle.words.proofs.Laws.{both_l, both_r, both_make, within_true, true_within}
use Rattle.decimal.specs.Written.{Written, number_written, blank as blank_written, badly as badly_written}
use Rattle.decimal.specs.Forms.{width_of, shape_of}
use Rattle.decimal.specs.Scan.{written}
use Rattle.decimal.specs.Grammar.{Good, blank as blanks, whole, fixed, expo, well, badly}
use Rattle.decimal.specs.Grammar as grammar
use Rattle.decimal.specs.declared.Form.{Form}
use Rattle.decimal.specs.declared.Form.TheVariants.{I6}
use Rattle.decimal.specs.declared.Shape.{Shape}
use Rattle.decimal.specs.declared.Shape.TheVariants.{Whole}
use Rattle.decimal.proofs.Answer as answer
use Rattle.fields.specs.Field.{field_bytes, bad_place, from_written}
use Rattle.fields.specs.declared.Field.{Field}
use Rattle.fields.proofs.Laws as laws
use Rattle.plan.specs.Tables.{codes}
use Rattle.plan.specs.declared.Codes.{Codes}
use Rattle.plan.specs.declared.Slot.{Slot}
use Rattle.verdicts.specs.Tests.{Test, text_at, readable?, number_tests, count_tests, number_of}
use Rattle.verdicts.specs.Numbers.{at, last_of, number_at}
use Rattle.leader.specs.Leader.{count_at, length_at, slot_tests}
use Rattle.leader.specs.declared.Pair as declared
use Rattle.verdicts.proofs.Holding.{Holds, fine_holds, holds_fine, holds_split, holds_join}
use Rattle.leader.proofs.PairLaws.{length_none, length_some}
use Rattle.headers.specs.Header.{codes_are, header_tests, header_of}
use Rattle.promises.specs.Rules.{Coded, Is, Any, Record, blank, none, some}
use Rattle.promises.specs.Newest.{Says, Numbered, Readable, Pair}

-- ---- texts

text_step : (r : List ℕ) (at c : ℕ) (cs : List ℕ) → at < length r
    → take (suc (length cs)) (drop at r) ≡ byte_at r at ∷ take (length cs) (drop (at + 1) r)
text_step r at c cs h = rw (add-one, drop-cons r at 0)

cons_head : {x y : ℕ} {xs ys : List ℕ} → x ∷ xs ≡ y ∷ ys → x ≡ y
cons_head e = cc

cons_tail : {x y : ℕ} {xs ys : List ℕ} → x ∷ xs ≡ y ∷ ys → xs ≡ ys
cons_tail e = cc

text_to : (r : List ℕ) (at : ℕ) (t : List ℕ) → at + length t ≤ length r → text_at r at t ≡ true → take (length t) (drop at r) ≡ t
unfolding text_at
text_to r at [] h e = refl
text_to r at (c ∷ cs) h e =
    text_step r at c cs (omega arith)
    ∙ ap₂ (λ (x : ℕ) (xs : List ℕ). x ∷ xs) (eqb-true _ _ (both_l (eqb (byte_at r at) c) (text_at r (at + 1) cs) e))
    (text_to r (at + 1) cs (omega arith) (both_r (eqb (byte_at r at) c) (text_at r (at + 1) cs) e))

text_from : (r : List ℕ) (at : ℕ) (t : List ℕ) → at + length t ≤ length r → take (length t) (drop at r) ≡ t → text_at r at t ≡ true
unfolding text_at
text_from r at [] h e = refl
text_from r at (c ∷ cs) h e =
    let q = sym (text_step r at c cs (omega arith)) ∙ e in
    both_make _ _ (eq-eqb _ _ (cons_head q)) (text_from r (at + 1) cs (omega arith) (cons_tail q))

pub text_is : (r : List ℕ) (at : ℕ) (t : List ℕ) → at + length t ≤ length r → (text_at r at t ≡ true) ↔ (take (length t) (drop at r) ≡ t)
text_is r at t h = (text_to r at t h, text_from r at t h)

-- ---- headers

-- the fourth code byte: any where it is free
abbrev pub Fourth : Bool → ℕ → ℕ → Type 0
Fourth true d x = Unit {0}
Fourth false d x = x ≡ d

-- the rule of code bytes
abbrev pub CodedBy : Codes → List ℕ → Type 0
CodedBy c = Coded c.one c.two c.three (Fourth c.free c.four)

fourth_to : (f : Bool) (d x : ℕ) → pick f true (eqb x d) ≡ true → Fourth f d x
fourth_to true d x e = tt
fourth_to false d x e = eqb-true x d e

fourth_from : (f : Bool) (d x : ℕ) → Fourth f d x → pick f true (eqb x d) ≡ true
fourth_from true d x e = refl
fourth_from false d x e = eq-eqb x d e

pub codes_to : (b : List ℕ) (c : Codes) → codes_are b c ≡ true → CodedBy c b
unfolding codes_are place_of
codes_to b c e =
    let l = both_l (both_of (eqb (byte_at b 4) c.one) (eqb (byte_at b 5) c.two)) _ e in
    let r = both_r (both_of (eqb (byte_at b 4) c.one) (eqb (byte_at b 5) c.two)) _ e in
    record {
      one = eqb-true _ _ (both_l (eqb (byte_at b 4) c.one) _ l);
      two = eqb-true _ _ (both_r (eqb (byte_at b 4) c.one) _ l);
      three = eqb-true _ _ (both_l (eqb (byte_at b 6) c.three) _ r);
      four = fourth_to c.free c.four (byte_at b 7) (both_r (eqb (byte_at b 6) c.three) _ r);
    }

pub codes_from : (b : List ℕ) (c : Codes) → CodedBy c b → codes_are b c ≡ true
unfolding codes_are place_of
codes_from b c h =
    both_make _ _ (both_make _ _ (eq-eqb _ _ h.one) (eq-eqb _ _ h.two))
    (both_make _ _ (eq-eqb _ _ h.three) (fourth_from c.free c.four (byte_at b 7) h.four))

-- a record of the length due: no fault in its header is that it is the record due
pub header_is : (ordinal : ℕ) (c : Codes) (long : ℕ) (r : List ℕ) → length r ≡ long → (header_of ordinal c long r ≡ Ok tt) ↔ Record ordinal (CodedBy c) long r
unfolding header_of header_tests place_of
header_is ordinal c long r size = (
  λ e.
      let h = fine_holds (header_tests ordinal c long r) e in
      record { size = size; sequence = eqb-true _ _ h.0; codes = codes_to r c h.1.0; says = eqb-true _ _ h.1.1.0 },
  λ q. holds_fine (header_tests ordinal c long r) (eq-eqb _ _ q.sequence, (codes_from r c q.codes, (eq-eqb _ _ q.says, tt))),
)

-- four code bytes that are due, and three with any fourth
module _ (ordinal a b c d long : ℕ) (r : List ℕ) (size : length r ≡ long) where
  pub header_four : (header_of ordinal (codes a b c d) long r ≡ Ok tt) ↔ Record ordinal (Coded a b c (Is d)) long r
  header_four = header_is ordinal (codes a b c d) long r size

  pub header_three : (header_of ordinal (record { one = a; two = b; three = c; four = d; free = true }) long r ≡ Ok tt)
      ↔ Record ordinal (Coded a b c Any) long r
  header_three = header_is ordinal (record { one = a; two = b; three = c; four = d; free = true }) long r size

-- a header is judged by its first twelve bytes
byte_take : (n : ℕ) (b : List ℕ) (i : ℕ) → i < n → byte_at (take n b) i ≡ byte_at b i
byte_take n b i h = get_or-take n b i 0 h

four_take : (n : ℕ) (b : List ℕ) (i : ℕ) → i + 3 < n → four_at (take n b) i ≡ four_at b i
unfolding four_at two_at
four_take n b i h =
    rw (
      byte_take n b i (omega arith),
      byte_take n b (i + 1) (omega arith),
      byte_take n b (i + 2) (omega arith),
      byte_take n b (i + 2 + 1) (omega arith),
    )

pub header_take : (ordinal : ℕ) (c : Codes) (long n : ℕ) (b : List ℕ) → 12 ≤ n → header_of ordinal c long (take n b) ≡ header_of ordinal c long b
unfolding header_of header_tests codes_are
header_take ordinal c long n b h =
    simp (
      four_take n b 0 (omega arith),
      four_take n b 8 (omega arith),
      byte_take n b 4 (omega arith),
      byte_take n b 5 (omega arith),
      byte_take n b 6 (omega arith),
      byte_take n b 7 (omega arith),
    )

-- ---- number fields

-- the exponent of what is written
exponent_of : Written → ℤ
exponent_of (Ok (Some x)) = x.exponent
exponent_of (Ok None) = pos 0
exponent_of (Err x) = pos 0

-- a whole number has no exponent
pub no_exponent : {s : Shape} {bs : List ℕ} {r : Written} → Good true s bs r → s ≡ Whole → (m e : ℤ) → r ≡ number_written m e → e ≡ pos 0
unfolding exponent_of
no_exponent (blanks s n) q m e z = sym (ap exponent_of z)
no_exponent (whole w) q m e z = sym (ap exponent_of z)
no_exponent (fixed w) q m e z = sym (ap exponent_of z)
no_exponent (expo w g ds n l) q m e z = absurd cc

-- the field at a byte as what is written there: badly written is 6 at its first bad byte
abbrev pub reading : List ℕ → ℕ → Form → Written → Field
reading r byte k w = from_written (bad_place r (place_of byte) k) w

module _ (r : List ℕ) (byte : ℕ) (k : Form) (here : place_of byte + width_of k ≤ length r) where
  told : at r byte k ≡ reading r byte k (written k (field_bytes r (place_of byte) k))
  told = laws.whole r (place_of byte) k here

  -- what is well written is what is read
  pub field_reads : (w : Written) → Says r byte k w → at r byte k ≡ reading r byte k w
  field_reads w f = told ∙ ap (reading r byte k) (answer.reads k (field_bytes r (place_of byte) k) w f)

  -- a property of a field, shown of each answer that the grammar allows, and where it allows none
  pub by_means : (P : Field → Type 0) → ((w : Written) → Says r byte k w → P (reading r byte k w))
      → (((w : Written) → Says r byte k w → ⊥) → P (reading r byte k badly_written)) → P (at r byte k)
  by_means P g b = subst P (sym told) (go (written k (field_bytes r (place_of byte) k)) (answer.says k (field_bytes r (place_of byte) k)))
    where
      go : (w : Written) → grammar.Means k (field_bytes r (place_of byte) k) w → P (reading r byte k w)
      go w (well f) = g w f
      go w (badly n) = b n

  by_says : (P : Field → Type 0) → ((w : Written) → Says r byte k w → P (reading r byte k w)) → P (reading r byte k badly_written) → P (at r byte k)
  by_says P g b = by_means P g (λ n. b)

  readable_to : readable? (at r byte k) ≡ true → Readable r byte k
  readable_to = by_says (λ (f : Field). readable? f ≡ true → Readable r byte k) (λ w s e. (w, s)) (λ e. absurd (false≢true e))

  readable_from : Readable r byte k → readable? (at r byte k) ≡ true
  readable_from (Ok (Some x), f) = ap readable? (field_reads (Ok (Some x)) f)
  readable_from (Ok None, f) = ap readable? (field_reads blank_written f)
  readable_from (Err x, f) = absurd (answer.never f.1 refl)

  -- a listed field is a value or blank
  pub readable_is : (readable? (at r byte k) ≡ true) ↔ Readable r byte k
  readable_is = (readable_to, readable_from)

  module _ (plain : shape_of k ≡ Whole) (lo hi : ℕ) where
    abbrev numbering : Written → Type 0
    numbering w =
        Says r byte k w → Holds (number_tests (reading r byte k w) (place_of byte) (last_of byte k) lo hi)
        → Numbered r byte k lo hi (number_of (reading r byte k w))

    number_some : (v e : ℤ) → numbering (number_written v e)
    number_some (pos n) e f h =
        let b = within_true lo n hi h.1.0 in
        record {
          says = subst (λ (x : ℤ). Says r byte k (number_written (pos n) x)) (no_exponent f.1 plain (pos n) e refl) f;
          least = b.0;
          most = b.1;
        }
    number_some (negsuc n) e f h = absurd (false≢true h.1.0)

    number_well : (w : Written) → numbering w
    number_well (Ok (Some x)) f h = number_some x.units x.exponent f h
    number_well (Ok None) f h = absurd (false≢true h.0)
    number_well (Err x) f h = absurd (false≢true h.0)

    number_to : Holds (number_tests (at r byte k) (place_of byte) (last_of byte k) lo hi) → Numbered r byte k lo hi (number_at r byte k)
    number_to =
        by_says (λ (f : Field). Holds (number_tests f (place_of byte) (last_of byte k) lo hi) → Numbered r byte k lo hi (number_of f)) number_well
        (λ h. absurd (false≢true h.0))

    -- the number that is written
    pub number_reads : (n : ℕ) → Numbered r byte k lo hi n → number_at r byte k ≡ n
    number_reads n q = ap number_of (field_reads (number_written (pos n) (pos 0)) q.says)

    number_from : (n : ℕ) → Numbered r byte k lo hi n → Holds (number_tests (at r byte k) (place_of byte) (last_of byte k) lo hi)
    number_from n q =
        subst (λ (f : Field). Holds (number_tests f (place_of byte) (last_of byte k) lo hi)) (sym (field_reads (number_written (pos n) (pos 0)) q.says))
        (refl, (true_within lo n hi q.least q.most, tt))

    -- a number field without a fault says a number of its range, the one that is read
    pub number_is : (n : ℕ) → (Holds (number_tests (at r byte k) (place_of byte) (last_of byte k) lo hi) × (number_at r byte k ≡ n)) ↔ Numbered r byte k lo hi n
    number_is n = (λ h. subst (Numbered r byte k lo hi) h.1 (number_to h.0), λ q. (number_from n q, number_reads n q))

-- ---- a leader's pairs of count and length

module _ (r : List ℕ) (x : declared.Pair) (s : Slot) (here : place_of x.byte + 6 ≤ length r) where
  -- a count without a fault is blank, and 0 allowed, or a number of its range
  abbrev Counted : ℕ → Type 0
  Counted n = (Says r x.byte I6 blank_written × (n ≡ 0) × (s.least ≤ 0)) ⊎ Numbered r x.byte I6 s.least s.most n

  abbrev counting : Field → List Test
  counting f = count_tests f (place_of x.byte) s.least s.most

  abbrev counted_by : Written → Type 0
  counted_by w = Says r x.byte I6 w → Holds (counting (reading r x.byte I6 w)) → Counted (number_of (reading r x.byte I6 w))

  count_some : (v e : ℤ) → counted_by (number_written v e)
  count_some (pos n) e f h =
      let b = within_true s.least n s.most h.1.0 in
      inr (record {
        says = subst (λ (y : ℤ). Says r x.byte I6 (number_written (pos n) y)) (no_exponent f.1 refl (pos n) e refl) f;
        least = b.0;
        most = b.1;
      })
  count_some (negsuc n) e f h = absurd (false≢true h.1.0)

  count_well : (w : Written) → counted_by w
  count_well (Ok (Some y)) f h = count_some y.units y.exponent f h
  count_well (Ok None) f h = inl (f, refl, (within_true s.least 0 s.most h.1.0).0)
  count_well (Err y) f h = absurd (false≢true h.0)

  count_to : Holds (counting (at r x.byte I6)) → Counted (count_at r x)
  unfolding count_at
  count_to = by_says r x.byte I6 here (λ (f : Field). Holds (counting f) → Counted (number_of f)) count_well (λ h. absurd (false≢true h.0))

  module _ (there : place_of (x.byte + 6) + width_of x.form ≤ length r) (plain : shape_of x.form ≡ Whole) where
    abbrev pub PairOf : ℕ → ℕ → Type 0
    PairOf = Pair r x.byte x.form s.least s.most s.shortest s.longest

    abbrev measuring : List Test
    measuring = number_tests (at r (x.byte + 6) x.form) (place_of (x.byte + 6)) (last_of (x.byte + 6) x.form) s.shortest s.longest

    abbrev Measured : ℕ → Type 0
    Measured = Numbered r (x.byte + 6) x.form s.shortest s.longest

    pair_of : (c l : ℕ) → Counted c → (c ≡ 0 → l ≡ 0) → ((c ≡ 0 → ⊥) → Measured l) → PairOf c l
    pair_of zero l (inl q) z n = subst (PairOf 0) (sym (z refl)) (blank q.0 q.2)
    pair_of zero l (inr q) z n = subst (PairOf 0) (sym (z refl)) (none q)
    pair_of (suc c) l (inl q) z n = absurd (let y = q.1 in omega arith)
    pair_of (suc c) l (inr q) z n = some q (n (λ y. omega arith))

    pair_to : Holds (slot_tests r x s) → PairOf (count_at r x) (length_at r x)
    pair_to h =
        let b = holds_split (counting (at r x.byte I6)) (pick (eqb (count_at r x) 0) [] measuring) h in
        pair_of (count_at r x) (length_at r x) (count_to b.0) (length_none r x)
        (λ z.
        subst Measured (sym (length_some r x z))
        ((number_is r (x.byte + 6) x.form there plain s.shortest s.longest (number_at r (x.byte + 6) x.form)).0
        (subst (λ (t : Bool). Holds (pick t [] measuring)) (ne_eqb (count_at r x) 0 z) b.1, refl)))

    count_reads : (w : Written) → Says r x.byte I6 w → count_at r x ≡ number_of (reading r x.byte I6 w)
    unfolding count_at
    count_reads w f = ap number_of (field_reads r x.byte I6 here w f)

    -- a pair without a fault, by its count
    made : (w : Written) → Says r x.byte I6 w → Holds (counting (reading r x.byte I6 w)) → ((count_at r x ≡ 0 → ⊥) → Holds measuring)
        → Holds (slot_tests r x s)
    made w f h m =
        holds_join (counting (at r x.byte I6)) (pick (eqb (count_at r x) 0) [] measuring)
        (subst (λ (y : Field). Holds (counting y)) (sym (field_reads r x.byte I6 here w f)) h) (go (eqb (count_at r x) 0) refl)
      where
        go : (t : Bool) → eqb (count_at r x) 0 ≡ t → Holds (pick t [] measuring)
        go true e = tt
        go false e = m (eqb-false (count_at r x) 0 e)

    abbrev Passes : ℕ → ℕ → Type 0
    Passes c l = Holds (slot_tests r x s) × (count_at r x ≡ c) × (length_at r x ≡ l)

    pair_from : {c l : ℕ} → PairOf c l → Passes c l
    pair_from (blank f z) =
        let e = count_reads blank_written f in
        (made blank_written f (refl, (true_within s.least 0 s.most z (omega arith), tt)) (λ n. absurd (n e)), e, length_none r x e)
    pair_from (none q) =
        let e = count_reads (number_written (pos 0) (pos 0)) q.says in (
          made (number_written (pos 0) (pos 0)) q.says (refl, (true_within s.least 0 s.most q.least q.most, tt))
              (λ n. absurd (n e)),
          e,
          length_none r x e,
        )
    pair_from (some {count = c} {long = l} q m) =
        let e = count_reads (number_written (pos (suc c)) (pos 0)) q.says in
        let n : count_at r x ≡ 0 → ⊥ = λ z. omega arith in
        let b = (number_is r (x.byte + 6) x.form there plain s.shortest s.longest l).1 m in (
          made (number_written (pos (suc c)) (pos 0)) q.says (refl, (true_within s.least (suc c) s.most q.least q.most, tt)) (λ _. b.0),
          e,
          length_some r x n ∙ b.1,
        )

    -- a pair under its slot's ranges, with the count and the length that the plan takes
    pub pair_is : (c l : ℕ) → Passes c l ↔ PairOf c l
    pair_is c l = (λ h. subst₂ PairOf h.1 h.2 (pair_to h.0), λ q. pair_from q)
