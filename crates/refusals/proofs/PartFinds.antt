-- The tests of a record's parts find the first of the rules that `Refusals` writes for it: a text, a header, a number field, a listed field and a
-- leader's pair, each by the cases of what the bytes say.
use Prim.Native.Nat.{ℕ, ◌+◌, ◌-◌, ◌≤◌}
use Prim.Native.String.{String}
use mathlib.Core.Path.{◌≡◌, refl, sym, ap, ◌∙◌, subst}
use mathlib.Core.Logic.{◌⊎◌, inl, inr}
use mathlib.Core.List.{List, [], ◌∷◌, ◌++◌}
use mathlib.Core.Bool.{Bool, true, false, false≢true}
use native.Mathlib.Omega.{arith}
use lib.Dec.{eqb}
use lib.IntN.{ℤ, pos, negsuc}
use lib.ListN.{length}
use borrow.Author.Tests.{eqb-true, eqb-false, eq-eqb}
use Rattle.std.specs.Prelude.{Ok, Err, Some, None}
use Rattle.words.specs.Answer.{refusal_at}
use Rattle.words.specs.Tests.{pick, within_of}
use Rattle.words.specs.Words.{four_at, place_of}
use Rattle.words.proofs.Laws.{within_true, within_false}
use Rattle.decimal.specs.Written.{Written, number_written, blank as blank_written, badly as badly_written}
use Rattle.decimal.specs.Forms.{width_of, shape_of}
use Rattle.decimal.specs.Text.{bytes}
use Rattle.decimal.specs.declared.Form.{Form}
use Rattle.decimal.specs.declared.Form.TheVariants.{I6}
use Rattle.decimal.specs.declared.Shape.TheVariants.{Whole}
use Rattle.decimal.proofs.Answer as answer
use Rattle.bad_byte.specs.BadByte.{bad, empty}
use Rattle.bad_byte.specs.Columns.{bad_in}
use Rattle.fields.specs.Field.{field_bytes, bad_place}
use Rattle.fields.specs.declared.Field.{Field}
use Rattle.fields.proofs.Named.{bad_here}
use Rattle.plan.specs.declared.Codes.{Codes}
use Rattle.verdicts.specs.Tests.{Test, first_fault, text_at, number_tests, count_tests, readable_test, number_of, whole_in, Verdict}
use Rattle.verdicts.specs.Numbers.{at, last_of}
use Rattle.verdicts.proofs.FieldLaws.{some_byte}
use Rattle.headers.specs.Header.{codes_are, header_tests, header_of}
use Rattle.promises.specs.Rules.{Text}
use Rattle.promises.specs.Newest.{Says, Numbered}
use Rattle.promises.proofs.Parts.{CodedBy, codes_to, codes_from, text_is, reading, by_means, no_exponent}
use Rattle.refusals.specs.Refusals.{in_field, Points, Rule, rule, unread, FirstWrong, header, text, SomeNumber, number, listed, Counts, pair}
use Rattle.refusals.proofs.Finds.{Finds, finds_none, finds_test}

-- ---- texts and headers

-- a test that is exactly a rule, with its number and place
pub exact : (b : Bool) (v : Verdict) (x : Rule) (xs : List Rule) (at : ℕ) → Points x.mark at → (b ≡ true → x.Holds) → (x.Holds → b ≡ true)
    → (b ≡ true → Finds v xs) → Finds (pick b v (Err (refusal_at x.number at))) (x ∷ xs)
exact b v x xs at p to from f = finds_test b x.number at v x xs to (λ e. (λ h. false≢true (sym e ∙ from h), refl, p)) f

pub text_finds : (r : List ℕ) (byte : ℕ) (t : String) (v : Verdict) (xs : List Rule) → place_of byte + length (bytes t) ≤ length r
    → (Text r byte t → Finds v xs) → Finds (pick (text_at r (place_of byte) (bytes t)) v (Err (refusal_at 8 (place_of byte)))) (text r byte t ∷ xs)
text_finds r byte t v xs h f =
    let i = text_is r (place_of byte) (bytes t) h in
    exact (text_at r (place_of byte) (bytes t)) v (text r byte t) xs _ refl i.0 i.1 (λ e. f (i.0 e))

pub header_finds : (ordinal : ℕ) (c : Codes) (long : ℕ) (b : List ℕ) → Finds (header_of ordinal c long b) (header ordinal (CodedBy c) long b)
unfolding header_of header_tests first_fault place_of
header_finds ordinal c long b =
    exact (eqb (four_at b 0) ordinal) _ _ _ _ refl (eqb-true (four_at b 0) ordinal) (eq-eqb (four_at b 0) ordinal)
    (λ e. exact (codes_are b c) _ _ _ _ refl (codes_to b c) (codes_from b c)
    (λ e. exact (eqb (four_at b 8) long) _ _ _ _ refl (eqb-true (four_at b 8) long) (eq-eqb (four_at b 8) long) (λ e. finds_none)))

-- ---- fields

-- the number of what is written
units_of : Written → ℤ
units_of (Ok (Some x)) = x.units
units_of (Ok None) = pos 0
units_of (Err x) = pos 0

module _ (r : List ℕ) (byte : ℕ) (k : Form) where
  -- bytes say one thing
  pub said_once : {w w' : Written} → Says r byte k w → Says r byte k w' → w ≡ w'
  said_once {w} {w'} f g = sym (answer.reads k (field_bytes r (place_of byte) k) w f) ∙ answer.reads k (field_bytes r (place_of byte) k) w' g

  -- and one number
  said_units : {v v' e e' : ℤ} → Says r byte k (number_written v e) → Says r byte k (number_written v' e') → v ≡ v'
  unfolding units_of
  said_units f g = ap units_of (said_once f g)

  -- and what they say is never that they are badly written
  never_bad : Says r byte k badly_written → ⊥
  never_bad f = answer.never f.1 refl

  module _ (here : place_of byte + width_of k ≤ length r) where
    -- a field that is badly written points at its first bad byte, a blank one at its last
    points_bad : ((w : Written) → Says r byte k w → ⊥) → Points (in_field r byte k) (bad_place r (place_of byte) k)
    points_bad n = (bad_in (shape_of k) (field_bytes r (place_of byte) k), refl, bad (bad_here r (place_of byte) k here n))

    points_blank : Says r byte k blank_written → Points (in_field r byte k) (last_of byte k)
    points_blank s = (width_of k - 1, refl, empty s (omega (arith, some_byte k)))

    pub listed_finds : Finds (first_fault (readable_test (at r byte k) (place_of byte) ∷ [])) (listed r byte k ∷ [])
    unfolding first_fault
    listed_finds =
        by_means r byte k here (λ (f : Field). Finds (first_fault (readable_test f (place_of byte) ∷ [])) (listed r byte k ∷ [])) well
        (λ n. finds_test false _ _ _ _ _ (λ e. absurd (false≢true e)) (λ e. (λ h. n h.0 h.1, refl, points_bad n)) (λ e. finds_none))
      where
        well : (w : Written) → Says r byte k w → Finds (first_fault (readable_test (reading r byte k w) (place_of byte) ∷ [])) (listed r byte k ∷ [])
        well (Ok (Some v)) s =
            finds_test true 6 (place_of byte) (Ok tt) _ [] (λ q. (Ok (Some v), s)) (λ q. absurd (false≢true (sym q))) (λ q. finds_none)
        well (Ok None) s =
            finds_test true 6 (place_of byte) (Ok tt) _ [] (λ q. (blank_written, s)) (λ q. absurd (false≢true (sym q))) (λ q. finds_none)
        well (Err x) s = absurd (never_bad s)

    module _ (plain : shape_of k ≡ Whole) (lo hi : ℕ) where
      -- a number that is written lies in the range, or does not
      in_range_lem : (v e : ℤ) → Says r byte k (number_written v e) → Finds (pick (whole_in lo v hi) (Ok tt) (Err (refusal_at 7 (place_of byte))))
          (rule 7 byte ((n : ℕ) × Numbered r byte k lo hi n) ∷ [])
      in_range_lem (pos n) e s =
          finds_test (within_of lo n hi) 7 (place_of byte) (Ok tt) _ []
          (λ q.
          let b = within_true lo n hi q in (
            n,
            record { says = subst (λ (x : ℤ). Says r byte k (number_written (pos n) x)) (no_exponent s.1 plain (pos n) e refl) s; least = b.0; most = b.1 },
          ))
          (λ q. (
            λ h.
                let z : n ≡ h.0 = let y = said_units s h.1.says in cc in
                within_false lo n hi q (let a = h.1.least in omega arith, let b = h.1.most in omega arith),
            refl,
            refl,
          ))
          (λ q. finds_none)
      in_range_lem (negsuc n) e s =
          finds_test false 7 (place_of byte) (Ok tt) _ [] (λ q. absurd (false≢true q))
          (λ q. (λ h. let y = said_units s h.1.says in cc, refl, refl)) (λ q. finds_none)

      -- form, then range
      pub number_finds : Finds (first_fault (number_tests (at r byte k) (place_of byte) (last_of byte k) lo hi)) (number r byte k lo hi)
      unfolding first_fault
      number_finds =
          by_means r byte k here (λ (f : Field). Finds (first_fault (number_tests f (place_of byte) (last_of byte k) lo hi)) (number r byte k lo hi)) well
          (λ n. finds_test false 6 _ (Ok tt) _ _ (λ e. absurd (false≢true e)) (λ e. (λ h. n _ h.2, refl, points_bad n)) (λ e. absurd (false≢true e)))
        where
          well : (w : Written) → Says r byte k w
              → Finds (first_fault (number_tests (reading r byte k w) (place_of byte) (last_of byte k) lo hi)) (number r byte k lo hi)
          well (Ok (Some x)) s =
              finds_test true 6 (last_of byte k) _ _ _ (λ q. (x.units, x.exponent, s)) (λ q. absurd (false≢true (sym q)))
              (λ q. in_range_lem x.units x.exponent s)
          well (Ok None) s =
              finds_test false 6 (last_of byte k) (Ok tt) _ _ (λ q. absurd (false≢true q))
              (λ q. (λ h. let y = said_once s h.2 in cc, refl, points_blank s)) (λ q. absurd (false≢true q))
          well (Err x) s = absurd (never_bad s)

-- ---- a leader's pairs

-- the same rule, which need not hold where C does
abbrev or : Type 0 → Rule → Rule
or C x = record { number = x.number; mark = x.mark; Holds = C ⊎ x.Holds }

-- two of these, where C does not
unless : (C : Type 0) (v : Verdict) (x y : Rule) → (C → ⊥) → Finds v (x ∷ y ∷ []) → Finds v (or C x ∷ or C y ∷ [])
unless C v x y never f = record { fine = λ e. let h = f.fine e in (inr h.0, (inr h.1.0, tt)); fault = λ z e. go z.number z.place (f.fault z e) }
  where
    neither : (X : Type 0) → (X → ⊥) → C ⊎ X → ⊥
    neither X h (inl c) = never c
    neither X h (inr x) = h x

    go : (n q : ℕ) → FirstWrong (x ∷ y ∷ []) n q → FirstWrong (or C x ∷ or C y ∷ []) n q
    go n q (inl w) = inl (neither x.Holds w.0, w.1, w.2)
    go n q (inr (h, inl w)) = inr (inr h, inl (neither y.Holds w.0, w.1, w.2))
    go n q (inr (h, inr w)) = absurd w.1

module _ (r : List ℕ) (byte : ℕ) (k : Form) (here : place_of byte + 6 ≤ length r) (there : place_of (byte + 6) + width_of k ≤ length r)
    (plain : shape_of k ≡ Whole) (least most shortest longest : ℕ) where
  abbrev measuring : List Test
  measuring = number_tests (at r (byte + 6) k) (place_of (byte + 6)) (last_of (byte + 6) k) shortest longest

  abbrev pairing : Field → List Test
  pairing f = count_tests f (place_of byte) least most ++ pick (eqb (number_of f) 0) [] measuring

  -- the rules for the length
  abbrev lengths : List Rule
  lengths =
      unread r (byte + 6) k (Counts r byte 0 ⊎ SomeNumber r (byte + 6) k)
      ∷ rule 7 (byte + 6) (Counts r byte 0 ⊎ ((n : ℕ) × Numbered r (byte + 6) k shortest longest n))
      ∷ []

  -- where the count is 0 the length is not read
  no_length : Counts r byte 0 → Finds (Ok tt) lengths
  no_length c = record { fine = λ e. (inl c, (inl c, tt)); fault = λ y e. absurd cc }

  length_finds : (n : ℕ) → Says r byte I6 (number_written (pos n) (pos 0)) → Finds (first_fault (pick (eqb n 0) [] measuring)) lengths
  unfolding first_fault
  length_finds n s = go (eqb n 0) refl
    where
      some : (n ≡ 0 → ⊥) → Counts r byte 0 → ⊥
      some h (inl c) = let y = said_once r byte I6 s c.0 in cc
      some h (inr c) = h (let y = said_units r byte I6 s c in cc)

      go : (b : Bool) → eqb n 0 ≡ b → Finds (first_fault (pick b [] measuring)) lengths
      go true e = no_length (inr (subst (λ (x : ℕ). Says r byte I6 (number_written (pos x) (pos 0))) (eqb-true n 0 e) s))
      go false e =
          unless (Counts r byte 0) (first_fault measuring) (unread r (byte + 6) k (SomeNumber r (byte + 6) k))
          (rule 7 (byte + 6) ((n : ℕ) × Numbered r (byte + 6) k shortest longest n)) (some (eqb-false n 0 e))
          (number_finds r (byte + 6) k there plain shortest longest)

  -- the count's form and range, then the length
  pub pair_finds : Finds (first_fault (pairing (at r byte I6))) (pair r byte k least most shortest longest)
  unfolding first_fault
  pair_finds =
      by_means r byte I6 here (λ (f : Field). Finds (first_fault (pairing f)) (pair r byte k least most shortest longest)) well
      (λ n.
      finds_test false 6 _ (Ok tt) _ _ (λ e. absurd (false≢true e)) (λ e. (λ h. n h.0 h.1, refl, points_bad r byte I6 here n))
      (λ e. absurd (false≢true e)))
    where
      below : (n : ℕ) → Says r byte I6 (number_written (negsuc n) (pos 0)) → (m : ℕ) → Counts r byte m → ⊥
      below n s m (inl c) = let y = said_once r byte I6 s c.0 in cc
      below n s m (inr c) = let y = said_units r byte I6 s c in cc

      blank : Says r byte I6 blank_written → (m : ℕ) → Counts r byte m → m ≡ 0
      blank s m (inl c) = c.1
      blank s m (inr c) = let y = said_once r byte I6 s c in absurd cc

      given : (n : ℕ) → Says r byte I6 (number_written (pos n) (pos 0)) → (m : ℕ) → Counts r byte m → m ≡ n
      given n s m (inl c) = let y = said_once r byte I6 s c.0 in absurd cc
      given n s m (inr c) = let y = said_units r byte I6 s c in cc

      some : (v e : ℤ) → Says r byte I6 (number_written v e)
          → Finds (first_fault (pairing (reading r byte I6 (number_written v e)))) (pair r byte k least most shortest longest)
      some (pos n) e s =
          let s0 = subst (λ (x : ℤ). Says r byte I6 (number_written (pos n) x)) (no_exponent s.1 refl (pos n) e refl) s in
          finds_test true 6 (place_of byte) _ _ _ (λ q. (number_written (pos n) e, s)) (λ q. absurd (false≢true (sym q)))
          (λ q.
          finds_test (within_of least n most) 7 (place_of byte) _ _ _
          (λ q. let b = within_true least n most q in (n, inr s0, b.0, b.1))
          (λ q. (
            λ h. let z = given n s0 h.0 h.1 in within_false least n most q (let a = h.2 in omega arith, let b = h.3 in omega arith),
            refl,
            refl,
          ))
          (λ q. length_finds n s0))
      some (negsuc n) e s =
          let s0 = subst (λ (x : ℤ). Says r byte I6 (number_written (negsuc n) x)) (no_exponent s.1 refl (negsuc n) e refl) s in
          finds_test true 6 (place_of byte) _ _ _ (λ q. (number_written (negsuc n) e, s)) (λ q. absurd (false≢true (sym q)))
          (λ q.
          finds_test false 7 (place_of byte) (Ok tt) _ _ (λ q. absurd (false≢true q)) (λ q. (λ h. below n s0 h.0 h.1, refl, refl))
          (λ q. absurd (false≢true q)))

      well : (w : Written) → Says r byte I6 w → Finds (first_fault (pairing (reading r byte I6 w))) (pair r byte k least most shortest longest)
      well (Ok (Some x)) s = some x.units x.exponent s
      well (Ok None) s =
          finds_test true 6 (place_of byte) _ _ _ (λ q. (blank_written, s)) (λ q. absurd (false≢true (sym q)))
          (λ q.
          finds_test (within_of least 0 most) 7 (place_of byte) _ _ _
          (λ q. let b = within_true least 0 most q in (0, inl (s, refl), b.0, b.1))
          (λ q. (
            λ h. let z = blank s h.0 h.1 in within_false least 0 most q (let a = h.2 in omega arith, let b = h.3 in omega arith),
            refl,
            refl,
          ))
          (λ q. no_length (inl (s, refl))))
      well (Err x) s = absurd (answer.never s.1 refl)
