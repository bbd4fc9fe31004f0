-- A well-written field is read as what it says: the scanner is run over the parts from which the grammar builds it.
use Prim.Native.Nat.{ℕ, zero, suc, ◌+◌, ◌-◌, ◌*◌}
use mathlib.Core.Path.{◌≡◌, refl, ap, ◌∙◌}
use mathlib.Core.List.{List, [], ◌∷◌, ◌++◌, append_assoc}
use mathlib.Core.Bool.{Bool, true, false}
use native.Mathlib.Omega.{arith}
use lib.ListN.{length, replicate, length-append}
use lib.Seq.{take_at, drop_at, get_or_at, drop-append-add}
use lib.Dec.{eqb}
use lib.IntN.{ℤ}
use borrow.Author.Tests.{ne_eqb, le-leb}
use Rattle.words.specs.Tests.{pick}
use Rattle.std.proofs.Common.{Some, None}
use Rattle.digits.specs.Segments.{after_blanks, after_gap, digits_of, signed, with_sign, sign_of, head_of, on_part, mantissa_of, exponent_of, signed_digits}
use Rattle.decimal.specs.Scan.{number_in, decimal_of, or_blank, scaled_of}
use Rattle.decimal.specs.Grammar.{Numeral, after, Sign, plus, minus, mark, negative, Gap, Lead, bare, with, signed_of, Good, blank, whole, fixed, expo}
use Rattle.decimal.proofs.Spelt.{dot, Spelt, spelt, of_whole, of_point}
use Rattle.decimal.specs.declared.Shape.{Shape}
use Rattle.decimal.specs.Written.{Written, number_written}

pub numeral : (a : ℕ) (cs : List ℕ) → Numeral cs → digits_of a cs ≡ Some (after a cs)
numeral a [] n = refl
numeral a (c ∷ cs) n = rw (le-leb 48 c n.0, le-leb c 57 n.1) (numeral (a * 10 + (c - 48)) cs n.2)

pub after_append : (a : ℕ) (xs ys : List ℕ) → after a (xs ++ ys) ≡ after (after a xs) ys
after_append a [] ys = refl
after_append a (c ∷ cs) ys = after_append (a * 10 + (c - 48)) cs ys

pub blanks : (b : ℕ) (xs : List ℕ) → after_blanks (replicate b 32 ++ xs) ≡ after_blanks xs
blanks zero xs = refl
blanks (suc b) xs = blanks b xs

-- digits have no blank at their front
unblank : (cs : List ℕ) → Numeral cs → after_blanks cs ≡ cs
unblank [] n = refl
unblank (c ∷ cs) n = let l = n.0 in rw (ne_eqb c 32 (omega arith))

-- blanks behind a sign, where there may be any
gap : (p : Bool) (m : ℕ) (cs : List ℕ) → Gap p m → Numeral cs → after_gap p (replicate m 32 ++ cs) ≡ cs
gap true m cs h n = blanks m cs ∙ unblank cs n
gap false m cs h n = ap (λ (i : ℕ). replicate i 32 ++ cs) h

sign_bare : (p : Bool) (cs : List ℕ) → Numeral cs → sign_of p (after_blanks cs) ≡ signed false (after 0 cs)
sign_bare p [] n = refl
sign_bare p (c ∷ cs) n =
    let l = n.0 in
    rw (ne_eqb c 32 (omega arith), ne_eqb c 45 (omega arith), ne_eqb c 43 (omega arith), numeral 0 (c ∷ cs) n)

pub head : (p : Bool) (b : ℕ) {g : List ℕ} {s : Bool} (cs : List ℕ) → Lead p g s → Numeral cs
    → sign_of p (after_blanks (replicate b 32 ++ (g ++ cs))) ≡ signed s (after 0 cs)
head p b cs bare n = rw (blanks b cs) (sign_bare p cs n)
head p b cs (with plus m h) n = rw (blanks b (43 ∷ (replicate m 32 ++ cs)), gap p m cs h n, numeral 0 cs n)
head p b cs (with minus m h) n = rw (blanks b (45 ∷ (replicate m 32 ++ cs)), gap p m cs h n, numeral 0 cs n)

-- the bytes fall apart at the point
pub parts : (p : Bool) (d : ℕ) (hs ps : List ℕ) → length ps ≡ d
    → mantissa_of p d (hs ++ (dot p ++ ps)) ≡ on_part (head_of p hs) None (λ s a. with_sign s (digits_of a ps))
unfolding mantissa_of
parts true d hs ps e =
    let t : length (hs ++ 46 ∷ ps) - d ≡ length hs + 1 = omega (arith, length-append hs (46 ∷ ps)) in
    let q : length hs + 1 - 1 ≡ length hs = omega arith in
    rw (t, q, get_or_at hs 46 ps 0 (length hs) refl, take_at hs (46 ∷ ps) (length hs) refl, drop-append-add hs (46 ∷ ps) 1)
parts false d hs ps e =
    let t : length (hs ++ ps) - d ≡ length hs = omega (arith, length-append hs ps) in
    rw (t, take_at hs ps (length hs) refl, drop_at hs ps (length hs) refl)

pub mantissa : (p : Bool) (d : ℕ) {bs : List ℕ} {s : Bool} {a : ℕ} → Spelt p d bs s a → mantissa_of p d bs ≡ signed s a
mantissa p d (spelt b {g} ws ps l n m e) =
    let q : replicate b 32 ++ (g ++ (ws ++ (dot p ++ ps))) ≡ (replicate b 32 ++ (g ++ ws)) ++ (dot p ++ ps) = simp append_assoc in
    rw (q, parts p d (replicate b 32 ++ (g ++ ws)) ps e, head p b ws l n, numeral (after 0 ws) ps m, after_append 0 ws ps)

-- some byte is no blank
data Inked : List ℕ → Type 0 where
  here : {c : ℕ} {cs : List ℕ} → (c ≡ 32 → ⊥) → Inked (c ∷ cs)
  later : {c : ℕ} {cs : List ℕ} → Inked cs → Inked (c ∷ cs)

inked_right : (xs : List ℕ) {ys : List ℕ} → Inked ys → Inked (xs ++ ys)
inked_right [] i = i
inked_right (x ∷ xs) i = later (inked_right xs i)

inked : {xs : List ℕ} → Inked xs → (r : Written) → or_blank (after_blanks xs) r ≡ r
inked (here {c} n) r = rw (ne_eqb c 32 n)
inked (later {c} {cs} i) r = go (eqb c 32) (inked i r)
  where
    go : (b : Bool) → or_blank (after_blanks cs) r ≡ r → or_blank (pick b (after_blanks cs) (c ∷ cs)) r ≡ r
    go true h = h
    go false h = refl

tail_inked : (p : Bool) (d : ℕ) {bs : List ℕ} {s : Bool} {a : ℕ} →
    ((ps : List ℕ) → Numeral ps → length ps ≡ d → Inked (dot p ++ ps)) → Spelt p d bs s a → Inked bs
tail_inked p d h (spelt b {g} ws ps l n m e) = inked_right (replicate b 32) (inked_right g (inked_right ws (h ps m e)))

last_inked : (ps : List ℕ) → Numeral ps → length ps ≡ 1 → Inked ps
last_inked [] n e = absurd (omega arith)
last_inked (c ∷ cs) n e = let l = n.0 in here {c = c} (omega arith)

all_blank : (n : ℕ) → after_blanks (replicate n 32) ≡ []
all_blank zero = refl
all_blank (suc n) = all_blank n

scales : (s : Bool) (a : ℕ) (g : Sign) (ds : List ℕ) → Numeral ds → scaled_of (signed s a) (signed_digits (mark g) ds) ≡ number_written (signed_of s a)
    (signed_of (negative g) (after 0 ds))
scales s a plus ds n = rw (numeral 0 ds n)
scales s a minus ds n = rw (numeral 0 ds n)

pub complete : (k : Shape) {bs : List ℕ} {r : Written} → Good true k bs r → decimal_of k bs ≡ r
unfolding decimal_of number_in exponent_of
complete k (blank _ n) = rw (all_blank n)
complete k (whole {bs} w) =
    let m = of_whole w in
    rw (inked (tail_inked false 1 last_inked m.spelt) _, mantissa false 1 m.spelt, m.value)
complete k (fixed {d} {bs} w) =
    let m = of_point w in
    rw (inked (tail_inked true d (λ ps n e. here {c = 46} (omega arith)) m.spelt) _, mantissa true d m.spelt, m.value)
complete k (expo {d} {bs} w g ds n e) =
    let m = of_point w in
    let t : length (bs ++ 69 ∷ (mark g ∷ ds)) - 4 ≡ length bs = omega (arith, length-append bs (69 ∷ (mark g ∷ ds))) in
    let i : Inked (bs ++ 69 ∷ (mark g ∷ ds)) = inked_right bs (here {c = 69} (omega arith)) in
    rw (inked i _, t, take_at bs (69 ∷ (mark g ∷ ds)) (length bs) refl, drop_at bs (69 ∷ (mark g ∷ ds)) (length bs) refl, mantissa true d m.spelt)
    (scales m.minus m.digits g ds n ∙ ap (λ (z : ℤ). number_written z (signed_of (negative g) (after 0 ds))) m.value)
