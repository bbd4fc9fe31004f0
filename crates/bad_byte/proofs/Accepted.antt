-- A well-written field is accepted: each part from which the grammar builds it leads from one stage to the next.
use Prim.Native.Nat.{ℕ, zero, suc, ◌+◌, ◌≤◌, ◌<◌}
use mathlib.Core.Path.{◌≡◌, refl, sym, ap, ◌∙◌, subst}
use mathlib.Core.List.{List, [], ◌∷◌, ◌++◌, append_assoc, append-nil}
use mathlib.Core.Bool.{Bool, true, false, false≢true}
use native.Mathlib.Omega.{arith}
use lib.IntN.{ℤ}
use lib.ListN.{length, replicate, length-append}
use borrow.Author.Tests.{ne_eqb}
use Rattle.words.specs.Tests.{pick}
use Rattle.words.proofs.Laws.{true_within, both_false}
use Rattle.decimal.specs.Grammar.{Numeral, Sign, plus, minus, mark, Lead, bare, with, WholeNumber, PointNumber, point, Good, blank, whole, fixed, expo}
use Rattle.decimal.specs.declared.Shape.{Shape}
use Rattle.decimal.specs.declared.Shape.TheVariants.{Whole, Fixed, Expo}
use Rattle.decimal.specs.Written.{Written}
use Rattle.bad_byte.specs.Columns.{column_of, pointed?, early?, fits_of, from_blanks, from_ink, next_of, wrong?}
use Rattle.bad_byte.specs.declared.Column.{Column}
use Rattle.bad_byte.specs.declared.Column.TheVariants.{Front, Unit as Last, Point, Place, Letter, Sign as Signed}
use Rattle.bad_byte.specs.declared.Stage.{Stage}
use Rattle.bad_byte.specs.declared.Stage.TheVariants.{Blanks, Behind, Inked, Wrong}
use Rattle.bad_byte.proofs.Accept.{step_of, Accept, go_on, all_blank}
use Rattle.bad_byte.proofs.Laid.{whole_column_lem, Laid, laid_fixed, laid_expo}

-- a byte that fits an early column and is no blank leads from any stage that is not wrong to the inked one
ink_step : (p : Bool) (st : Stage) (k : Column) (c : ℕ) → wrong? st ≡ false → (c ≡ 32 → ⊥) → early? k ≡ true → fits_of k c ≡ true → next_of p st k c ≡ Inked
ink_step p Blanks k c w n e f = rw (ne_eqb c 32 n, e, f)
ink_step p Behind k c w n e f = rw (ne_eqb c 32 n, both_false, f)
ink_step p Inked k c w n e f = rw f
ink_step p Wrong k c w n e f = absurd (false≢true (sym w))

starts : (s : Shape) (st : Stage) (k : Column) (c : ℕ) (cs : List ℕ) → wrong? st ≡ false → column_of s (length cs) ≡ k → early? k ≡ true → (c ≡ 32 → ⊥)
    → fits_of k c ≡ true → Accept s Inked cs → Accept s st (c ∷ cs)
starts s st k c cs w q e n f a =
    go_on s st c cs (ap (λ (j : Column). next_of (pointed? s) st j c) q ∙ ink_step (pointed? s) st k c w n e f) refl a

inks : (s : Shape) (k : Column) (c : ℕ) (cs : List ℕ) → column_of s (length cs) ≡ k → fits_of k c ≡ true → Accept s Inked cs → Accept s Inked (c ∷ cs)
inks s k c cs q f a =
    go_on s Inked c cs (ap (λ (j : Column). from_ink j c) q ∙ ap (λ (b : Bool). pick b Inked Wrong) f) refl a

-- a sign ahead of what the form demands
signs : (s : Shape) (g : Sign) (cs : List ℕ) → column_of s (length cs) ≡ Front → Accept s Behind cs → Accept s Blanks (mark g ∷ cs)
signs s plus cs q a = go_on s Blanks 43 cs (ap (λ (k : Column). from_blanks k 43) q) refl a
signs s minus cs q a = go_on s Blanks 45 cs (ap (λ (k : Column). from_blanks k 45) q) refl a

-- blanks at the front
blanks : (s : Shape) (b : ℕ) (xs : List ℕ) → Accept s Blanks xs → Accept s Blanks (replicate b 32 ++ xs)
blanks s zero xs a = a
blanks s (suc b) xs a = (refl, blanks s b xs a)

-- a whole number's digits, and its sign
whole_digits : (st : Stage) (ds : List ℕ) → wrong? st ≡ false → Numeral ds → Accept Whole st ds
whole_digits st [] w n = tt
whole_digits st (c ∷ cs) w n =
    let k = whole_column_lem (length cs) c in
    let l = n.0 in
    starts Whole st (column_of Whole (length cs)) c cs w refl k.0 (omega arith) (k.1 ∙ true_within 48 c 57 l n.1) (whole_digits Inked cs refl n.2)

whole_lead : {g : List ℕ} {m : Bool} (ds : List ℕ) → Lead false g m → Numeral ds → 1 ≤ length ds → Accept Whole Blanks (g ++ ds)
whole_lead ds bare n h = whole_digits Blanks ds refl n
whole_lead ds (with g k e) n h =
    rw e (signs Whole g ds (ap (λ (b : Bool). pick b Last Front) (ne_eqb (length ds) 0 (omega arith))) (whole_digits Behind ds refl n))

whole_number : {bs : List ℕ} {m : ℤ} → WholeNumber bs m → Accept Whole Blanks bs
whole_number (whole b {g} ds l n h) = blanks Whole b (g ++ ds) (whole_lead ds l n h)

-- a pointed number in front of bytes that are accepted behind it
module _ {s : Shape} {d t : ℕ} (laid : Laid s d t) (tail : List ℕ) (many : length tail ≡ t) (ends : Accept s Inked tail) where
  places : (ps : List ℕ) → Numeral ps → length ps ≤ d → Accept s Inked (ps ++ tail)
  places [] n h = ends
  places (c ∷ cs) n h =
      let l = length-append cs tail in
      inks s Place c (cs ++ tail) (laid.place (length (cs ++ tail)) (omega arith) (omega arith)) (true_within 48 c 57 n.0 n.1)
      (places cs n.2 (omega arith))

  dotted : (st : Stage) (ps : List ℕ) → wrong? st ≡ false → Numeral ps → length ps ≡ d → Accept s st (46 ∷ (ps ++ tail))
  dotted st ps w n e =
      let l = length-append ps tail in
      starts s st Point 46 (ps ++ tail) w (laid.dot (length (ps ++ tail)) (omega arith)) refl (omega arith) refl (places ps n (omega arith))

  fronts : (st : Stage) (ws ps : List ℕ) → wrong? st ≡ false → Numeral ws → Numeral ps → length ps ≡ d → Accept s st (ws ++ 46 ∷ (ps ++ tail))
  fronts st [] ps w n m e = dotted st ps w m e
  fronts st (c ∷ cs) ps w n m e =
      let l = length-append ps tail in
      let k = length-append cs (46 ∷ (ps ++ tail)) in
      let h = n.0 in
      starts s st Front c (cs ++ 46 ∷ (ps ++ tail)) w (laid.front (length (cs ++ 46 ∷ (ps ++ tail))) (omega arith)) refl (omega arith)
      (true_within 48 c 57 h n.1) (fronts Inked cs ps refl n.2 m e)

  gaps : (n : ℕ) (xs : List ℕ) → d + t < length xs → Accept s Behind xs → Accept s Behind (replicate n 32 ++ xs)
  gaps zero xs h a = a
  gaps (suc n) xs h a =
      let l = length-append (replicate n 32) xs in
      go_on s Behind 32 (replicate n 32 ++ xs) (step (length (replicate n 32 ++ xs)) (omega arith)) refl (gaps n xs h a)
    where
      step : (left : ℕ) → d + t < left → step_of s Behind left 32 ≡ Behind
      step left k = rw (laid.gap, laid.front left k)

  leads : {g : List ℕ} {m : Bool} (xs : List ℕ) → Lead true g m → d + t < length xs → Accept s Blanks xs → Accept s Behind xs → Accept s Blanks (g ++ xs)
  leads xs bare h a b = a
  leads xs (with g n e) h a b =
      let l = length-append (replicate n 32) xs in
      signs s g (replicate n 32 ++ xs) (laid.front (length (replicate n 32 ++ xs)) (omega arith)) (gaps n xs h b)

  number : {bs : List ℕ} {m : ℤ} → PointNumber true d bs m → Accept s Blanks (bs ++ tail)
  number (point b {g} ws ps l n k e) =
      let xs = ws ++ 46 ∷ (ps ++ tail) in
      let q : (replicate b 32 ++ (g ++ (ws ++ 46 ∷ ps))) ++ tail ≡ replicate b 32 ++ (g ++ (ws ++ 46 ∷ (ps ++ tail))) = simp append_assoc in
      let h = length-append ps tail in
      let i = length-append ws (46 ∷ (ps ++ tail)) in
      rw q (blanks s b (g ++ xs) (leads xs l (omega arith) (fronts Blanks ws ps refl n k e) (fronts Behind ws ps refl n k e)))

-- the exponent
mark_fits : (g : Sign) → fits_of Signed (mark g) ≡ true
mark_fits plus = refl
mark_fits minus = refl

exponent : (d : ℕ) (g : Sign) (ds : List ℕ) → Numeral ds → length ds ≡ 2 → Accept (Expo d) Inked (69 ∷ (mark g ∷ ds))
exponent d g [] n e = absurd (omega arith)
exponent d g (a ∷ []) n e = absurd (omega arith)
exponent d g (a ∷ (b ∷ (c ∷ cs))) n e = absurd (omega arith)
exponent d g (a ∷ (b ∷ [])) n e =
    inks (Expo d) Letter 69 (mark g ∷ (a ∷ (b ∷ []))) refl refl
    (inks (Expo d) Signed (mark g) (a ∷ (b ∷ [])) refl (mark_fits g)
    (inks (Expo d) Place a (b ∷ []) refl (true_within 48 a 57 n.0 n.1) (inks (Expo d) Place b [] refl (true_within 48 b 57 n.2.0 n.2.1) tt)))

pub accepted : {s : Shape} {bs : List ℕ} {r : Written} → Good true s bs r → Accept s Blanks bs
accepted (blank k n) = all_blank k n
accepted (whole w) = whole_number w
accepted (fixed {d} {bs} w) = subst (Accept (Fixed d) Blanks) (append-nil bs) (number (laid_fixed d) [] refl tt w)
accepted (expo {d} w g ds n e) = number (laid_expo d) (69 ∷ (mark g ∷ ds)) (omega arith) (exponent d g ds n e) w
