-- What is read was written so: each segment that the scanner took is a part of the grammar, and what it refuses no well-written field has.
use Prim.Native.Nat.{ℕ, suc, ◌+◌, ◌-◌, ◌*◌, ◌≤◌}
use mathlib.Core.Path.{◌≡◌, refl, sym, ap, ◌∙◌, subst, subst₂}
use mathlib.Core.List.{List, [], ◌∷◌, ◌++◌, append_assoc, append-nil}
use mathlib.Core.Bool.{Bool, true, false}
use native.Mathlib.Omega.{arith}
use lib.Dec.{eqb, leb}
use lib.ListN.{length, get_or, take, drop, replicate, take-append-drop, length-drop}
use lib.Seq.{split_at, length-take-le}
use borrow.Author.Tests.{eqb-true, leb-true, leb-false}
use Rattle.words.specs.Tests.{pick}
use Rattle.digits.specs.Segments.{after_blanks, after_gap, digits_of, signed, with_sign, sign_of, head_of, on_part, mantissa_of, exponent_of}
use Rattle.decimal.specs.Scan.{number_in, decimal_of, or_blank, plain_of, scaled_of}
use Rattle.decimal.specs.Grammar.{Numeral, after, Sign, plus, minus, mark, negative, Gap, Lead, bare, with, signed_of, Good, blank, whole, fixed, expo}
use Rattle.decimal.proofs.Spelt.{dot, Spelt, spelt, to_whole, to_point}
use Rattle.decimal.specs.declared.Shape.{Shape}
use Rattle.decimal.specs.declared.Shape.TheVariants.{Whole, Fixed, Expo}
use Rattle.decimal.specs.Written.{Written, number_written, blank as blank_written, badly}
use Rattle.digits.specs.declared.Signed.{Signed}
use Rattle.std.proofs.Common.{Option, Some, None}
use Rattle.decimal.proofs.Complete.{after_append}

not_bad : (n : ℕ) → None ≡ Some n → ⊥
not_bad n e = let z : ◌≡◌ {A = ℕ} 0 1 = cc in omega arith

not_wrong : (s : Bool) (a : ℕ) → None ≡ signed s a → ⊥
not_wrong s a e = let z : ◌≡◌ {A = ℕ} 0 1 = cc in omega arith

digits : (a : ℕ) (cs : List ℕ) (n : ℕ) → digits_of a cs ≡ Some n → Numeral cs × (after a cs ≡ n)
digits a [] n e = (tt, cc)
digits a (c ∷ cs) n e = go (leb 48 c) (leb c 57) refl refl e (digits (a * 10 + (c - 48)) cs n)
  where
    go : (b b' : Bool) → leb 48 c ≡ b → leb c 57 ≡ b' → pick (pick b b' false) (digits_of (a * 10 + (c - 48)) cs) None ≡ Some n
        → (digits_of (a * 10 + (c - 48)) cs ≡ Some n → Numeral cs × (after (a * 10 + (c - 48)) cs ≡ n)) → Numeral (c ∷ cs) × (after a (c ∷ cs) ≡ n)
    go true true l m h r = ((leb-true 48 c l, leb-true c 57 m, (r h).0), (r h).1)
    go true false l m h r = absurd (not_bad n h)
    go false b' l m h r = absurd (not_bad n h)

blanks : (xs : List ℕ) → (b : ℕ) × (xs ≡ replicate b 32 ++ after_blanks xs)
blanks [] = (0, refl)
blanks (c ∷ cs) = go (eqb c 32) refl (blanks cs)
  where
    go : (b : Bool) → eqb c 32 ≡ b → (n : ℕ) × (cs ≡ replicate n 32 ++ after_blanks cs) → (n : ℕ) ×
        (c ∷ cs ≡ replicate n 32 ++ pick b (after_blanks cs) (c ∷ cs))
    go true e r = (suc r.0, cc (eqb-true c 32 e))
    go false e r = (0, refl)

-- the parts of a head
record Head (p : Bool) (xs : List ℕ) (s : Bool) (a : ℕ) : Type 0 where
  sign : List ℕ
  rest : List ℕ
  lead : Lead p sign s
  bytes : xs ≡ sign ++ rest
  numeral : Numeral rest
  value : after 0 rest ≡ a

unsigned : (t : Bool) (d : Option ℕ) (s : Bool) (a : ℕ) → with_sign t d ≡ signed s a → (t ≡ s) × (d ≡ Some a)
unsigned t (Some n) s a e =
    let r : ◌≡◌ {A = Signed} (record { minus = t; digits = n }) (record { minus = s; digits = a }) = cc in
    (ap (λ (x : Signed). x.minus) r, ap (λ (x : Signed). Some x.digits) r)
unsigned t None s a e = absurd (not_wrong s a e)

bare_head : (p : Bool) (cs : List ℕ) (s : Bool) (a : ℕ) → with_sign false (digits_of 0 cs) ≡ signed s a → Head p cs s a
bare_head p cs s a e =
    let u = unsigned false (digits_of 0 cs) s a e in
    let d = digits 0 cs a u.1 in
    record { sign = []; rest = cs; lead = subst (λ (t : Bool). Lead p [] t) u.0 bare; bytes = refl; numeral = d.0; value = d.1 }

-- the blanks behind a sign, where there may be any
gap : (p : Bool) (cs : List ℕ) → (n : ℕ) × Gap p n × (cs ≡ replicate n 32 ++ after_gap p cs)
gap true cs = let b = blanks cs in (b.0, tt, b.1)
gap false cs = (0, refl, refl)

signed_head : (p : Bool) (g : Sign) (cs : List ℕ) (s : Bool) (a : ℕ) → with_sign (negative g) (digits_of 0 (after_gap p cs)) ≡ signed s a
    → Head p (mark g ∷ cs) s a
signed_head p g cs s a e =
    let u = unsigned (negative g) (digits_of 0 (after_gap p cs)) s a e in
    let d = digits 0 (after_gap p cs) a u.1 in
    let b = gap p cs in
    record {
      sign = mark g ∷ replicate b.0 32;
      rest = after_gap p cs;
      lead = subst (λ (t : Bool). Lead p (mark g ∷ replicate b.0 32) t) u.0 (with g b.0 b.1);
      bytes = ap (λ (l : List ℕ). mark g ∷ l) b.2;
      numeral = d.0;
      value = d.1;
    }

sign : (p : Bool) (xs : List ℕ) (s : Bool) (a : ℕ) → sign_of p xs ≡ signed s a → Head p xs s a
sign p [] s a e = bare_head p [] s a e
sign p (c ∷ cs) s a e = go (eqb c 45) (eqb c 43) refl refl e
  where
    go : (b b' : Bool) → eqb c 45 ≡ b → eqb c 43 ≡ b'
        → pick b (with_sign true (digits_of 0 (after_gap p cs)))
        (pick b' (with_sign false (digits_of 0 (after_gap p cs))) (with_sign false (digits_of 0 (c ∷ cs))))
        ≡ signed s a → Head p (c ∷ cs) s a
    go true b' m q h = rw (eqb-true c 45 m) (signed_head p minus cs s a h)
    go false true m q h = rw (eqb-true c 43 q) (signed_head p plus cs s a h)
    go false false m q h = bare_head p (c ∷ cs) s a h

-- what a mantissa was read from: the head, the point where one is asked, the places
record Taken (p : Bool) (hs : List ℕ) (o : Bool) (ps : List ℕ) (s : Bool) (a : ℕ) : Type 0 where
  number : ℕ
  front : head_of p hs ≡ signed s number
  point : o ≡ true
  places : digits_of number ps ≡ Some a

taken : (p : Bool) (hs : List ℕ) (o : Bool) (ps : List ℕ) (s : Bool) (a : ℕ)
    → on_part (head_of p hs) None (λ s a. pick o (with_sign s (digits_of a ps)) None) ≡ signed s a → Taken p hs o ps s a
taken p hs o ps s a e = go (head_of p hs) o refl refl e
  where
    go : (x : Option Signed) (b : Bool) → head_of p hs ≡ x → o ≡ b → on_part x None (λ s a. pick b (with_sign s (digits_of a ps)) None) ≡ signed s a →
        Taken p hs o ps s a
    go (Some y) true q r f =
        let v = unsigned y.minus (digits_of y.digits ps) s a f in
        record { number = y.digits; front = q ∙ ap (λ (w : Bool). signed w y.digits) v.0; point = r; places = v.1 }
    go (Some y) false q r f = absurd (not_wrong s a f)
    go None b q r f = absurd (not_wrong s a f)

-- a head, the point and the places make a number that is spelt so
build : (p : Bool) (d : ℕ) (hs : List ℕ) (o : Bool) (ps : List ℕ) (s : Bool) (a : ℕ) → Taken p hs o ps s a → length ps ≡ d → Spelt p d (hs ++ (dot p ++ ps)) s a
build p d hs o ps s a x l =
    let h = sign p (after_blanks hs) s x.number x.front in
    let m = digits x.number ps a x.places in
    let b = blanks hs in
    let q : hs ++ (dot p ++ ps) ≡ replicate b.0 32 ++ (h.sign ++ (h.rest ++ (dot p ++ ps))) =
    ap (λ (t : List ℕ). t ++ (dot p ++ ps)) (b.1 ∙ ap (λ (t : List ℕ). replicate b.0 32 ++ t) h.bytes) ∙ simp append_assoc in
    let v : after 0 (h.rest ++ ps) ≡ a = after_append 0 h.rest ps ∙ ap (λ (n : ℕ). after n ps) h.value ∙ m.1 in
    rw q (subst (λ (n : ℕ). Spelt p d (replicate b.0 32 ++ (h.sign ++ (h.rest ++ (dot p ++ ps)))) s n) v
    (spelt b.0 h.rest ps h.lead h.numeral m.0 l))

-- the bytes that the point takes
abbrev dots : Bool → ℕ
dots true = 1
dots false = 0

-- a point that was read stands behind the front of bs, not at the first of its places: that byte would be a point and a digit at once
point_first : (bs : List ℕ) (a n : ℕ) → eqb (get_or bs 0 0) 46 ≡ true → digits_of a bs ≡ Some n → ⊥
point_first [] a n p e = omega (arith, eqb-true 0 46 p)
point_first (c ∷ cs) a n p e = omega (arith, eqb-true c 46 p, (digits a (c ∷ cs) n e).0.0)

-- so a mantissa with a point has more bytes than places
long_enough : (d : ℕ) (bs : List ℕ) (s : Bool) (a : ℕ) → mantissa_of true d bs ≡ signed s a → d + 1 ≤ length bs
unfolding mantissa_of
long_enough d bs s a e = go (leb (d + 1) (length bs)) refl
  where
    go : (b : Bool) → leb (d + 1) (length bs) ≡ b → d + 1 ≤ length bs
    go true l = leb-true (d + 1) (length bs) l
    go false l =
        let x = taken true (take (length bs - d - 1) bs) (eqb (get_or bs (length bs - d - 1) 0) 46) (drop (length bs - d) bs) s a e in
        let z : length bs - d ≡ 0 = omega (arith, leb-false (d + 1) (length bs) l) in
        absurd
        (point_first bs x.number a (subst (λ (n : ℕ). eqb (get_or bs (n - 1) 0) 46 ≡ true) z x.point)
        (subst (λ (n : ℕ). digits_of x.number (drop n bs) ≡ Some a) z x.places))

mantissa : (p : Bool) (d : ℕ) (bs : List ℕ) (s : Bool) (a : ℕ) → d + dots p ≤ length bs → mantissa_of p d bs ≡ signed s a → Spelt p d bs s a
unfolding mantissa_of
mantissa true d bs s a l e =
    let x = taken true (take (length bs - d - 1) bs) (eqb (get_or bs (length bs - d - 1) 0) 46) (drop (length bs - d) bs) s a e in
    let n : suc (length bs - d - 1) ≡ length bs - d = omega arith in
    let q : bs ≡ take (length bs - d - 1) bs ++ 46 ∷ drop (length bs - d) bs =
    split_at bs (length bs - d - 1) 0 (omega arith) ∙ simp (n, eqb-true (get_or bs (length bs - d - 1) 0) 46 x.point) in
    subst (λ (t : List ℕ). Spelt true d t s a) (sym q)
    (build true d (take (length bs - d - 1) bs) (eqb (get_or bs (length bs - d - 1) 0) 46) (drop (length bs - d) bs) s a x (rw length-drop (omega arith)))
mantissa false d bs s a l e =
    subst (λ (t : List ℕ). Spelt false d t s a) (take-append-drop (length bs - d) bs)
    (build false d (take (length bs - d) bs) true (drop (length bs - d) bs) s a
    (taken false (take (length bs - d) bs) true (drop (length bs - d) bs) s a e) (rw length-drop (omega arith)))

-- E, a sign and digits
record Tail (xs : List ℕ) (s : Bool) (a : ℕ) : Type 0 where
  sign : Sign
  rest : List ℕ
  bytes : xs ≡ 69 ∷ (mark sign ∷ rest)
  numeral : Numeral rest
  minus? : negative sign ≡ s
  value : after 0 rest ≡ a

exponent : (xs : List ℕ) (s : Bool) (a : ℕ) → exponent_of xs ≡ signed s a → Tail xs s a
unfolding exponent_of
exponent [] s a e = absurd (not_wrong s a e)
exponent (c ∷ []) s a e = absurd (not_wrong s a e)
exponent (c ∷ (g ∷ cs)) s a e = go (eqb c 69) (eqb g 45) (eqb g 43) refl refl refl e
  where
    made : (h : Sign) → c ≡ 69 → g ≡ mark h → with_sign (negative h) (digits_of 0 cs) ≡ signed s a → Tail (c ∷ (g ∷ cs)) s a
    made h p q f =
        let u = unsigned (negative h) (digits_of 0 cs) s a f in
        let d = digits 0 cs a u.1 in
        record { sign = h; rest = cs; bytes = cc; numeral = d.0; minus? = u.0; value = d.1 }

    go : (x y z : Bool) → eqb c 69 ≡ x → eqb g 45 ≡ y → eqb g 43 ≡ z
        → pick x (pick y (with_sign true (digits_of 0 cs)) (pick z (with_sign false (digits_of 0 cs)) None)) None ≡ signed s a → Tail (c ∷ (g ∷ cs)) s a
    go true true z p q r h = made minus (eqb-true c 69 p) (eqb-true g 45 q) h
    go true false true p q r h = made plus (eqb-true c 69 p) (eqb-true g 43 r) h
    go true false false p q r h = absurd (not_wrong s a h)
    go false y z p q r h = absurd (not_wrong s a h)

-- the answer is well written, or it is that nothing with these bytes is
pub data Found (k : Shape) (bs : List ℕ) : Written → Type 0 where
  good : {r : Written} → Good true k bs r → Found k bs r
  none : Found k bs badly

scaled : (d : ℕ) {bs : List ℕ} (fs xs : List ℕ) (s : Bool) (a : ℕ) (t : Bool) (n : ℕ) → Spelt true d fs s a → Tail xs t n → length xs ≡ 4 → bs ≡ fs ++ xs
    → Good true (Expo d) bs (number_written (signed_of s a) (signed_of t n))
scaled d fs xs s a t n w x l q =
    subst (λ (b : List ℕ). Good true (Expo d) b (number_written (signed_of s a) (signed_of t n))) (sym (q ∙ ap (λ (b : List ℕ). fs ++ b) x.bytes))
    (subst₂ (λ (u : Bool) (m : ℕ). Good true (Expo d) (fs ++ 69 ∷ (mark x.sign ∷ x.rest)) (number_written (signed_of s a) (signed_of u m))) x.minus? x.value
    (expo (to_point w) x.sign x.rest x.numeral (omega (arith, ap length x.bytes))))

-- bytes that are not all blank are not none
some : (bs : List ℕ) (c : ℕ) (cs : List ℕ) → after_blanks bs ≡ c ∷ cs → 1 ≤ length bs
some [] c cs e = let z : ◌≡◌ {A = ℕ} 0 1 = cc in omega arith
some (b ∷ bs) c cs e = omega arith

number : (k : Shape) (bs : List ℕ) → 1 ≤ length bs → Found k bs (number_in k bs)
unfolding number_in
number Whole bs f = go (mantissa_of false 1 bs) refl
  where
    go : (x : Option Signed) → mantissa_of false 1 bs ≡ x → Found Whole bs (plain_of x)
    go (Some y) q = good (whole (to_whole (mantissa false 1 bs y.minus y.digits (omega arith) q)))
    go None q = none
number (Fixed d) bs f = go (mantissa_of true d bs) refl
  where
    go : (x : Option Signed) → mantissa_of true d bs ≡ x → Found (Fixed d) bs (plain_of x)
    go (Some y) q = good (fixed (to_point (mantissa true d bs y.minus y.digits (long_enough d bs y.minus y.digits q) q)))
    go None q = none
number (Expo d) bs f = go (mantissa_of true d (take (length bs - 4) bs)) (exponent_of (drop (length bs - 4) bs)) refl refl
  where
    go : (x y : Option Signed) → mantissa_of true d (take (length bs - 4) bs) ≡ x → exponent_of (drop (length bs - 4) bs) ≡ y
        → Found (Expo d) bs (scaled_of x y)
    go (Some y) (Some z) p q =
        let fs = take (length bs - 4) bs in
        let xs = drop (length bs - 4) bs in
        let l = long_enough d fs y.minus y.digits p in
        let m = length-take-le (length bs - 4) bs (omega arith) in
        good
        (scaled d fs xs y.minus y.digits z.minus z.digits (mantissa true d fs y.minus y.digits l p)
        (exponent xs z.minus z.digits q) (rw length-drop (omega arith)) (sym (take-append-drop (length bs - 4) bs)))
    go (Some y) None p q = none
    go None y p q = none

-- what is read of any bytes is well written, or is that they are badly written
pub sound : (k : Shape) (bs : List ℕ) → Found k bs (decimal_of k bs)
unfolding decimal_of
sound k bs = go (after_blanks bs) refl
  where
    go : (xs : List ℕ) → after_blanks bs ≡ xs → Found k bs (or_blank xs (number_in k bs))
    go [] e =
        let b = blanks bs in
        subst (λ (t : List ℕ). Found k t blank_written) (sym (b.1 ∙ ap (λ (l : List ℕ). replicate b.0 32 ++ l) e ∙ append-nil (replicate b.0 32)))
        (good (blank k b.0))
    go (c ∷ cs) e = number k bs (some bs c cs e)
