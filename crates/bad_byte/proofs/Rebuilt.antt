-- Accepted bytes are well written: from the end of a field to its front, what each stage takes is a part of the grammar.
use Prim.Native.Nat.{ℕ, zero, suc, ◌+◌, ◌≤◌, ◌<◌}
use mathlib.Core.Path.{◌≡◌, refl, sym, ap, ◌∙◌, subst}
use mathlib.Core.List.{List, [], ◌∷◌, ◌++◌, append_assoc, append-nil}
use mathlib.Core.Bool.{Bool, true, false, false≢true}
use native.Mathlib.Omega.{arith}
use lib.Dec.{eqb}
use lib.ListN.{length, replicate}
use borrow.Author.Tests.{eqb-true, eqb-false}
use Rattle.words.specs.Tests.{pick, both_of}
use Rattle.words.proofs.Laws.{within_true, both_l, both_r}
use Rattle.decimal.specs.Grammar.{Numeral, Sign, plus, minus, mark, Lead, bare, with, point, Good, blank, whole, fixed, expo}
use Rattle.decimal.specs.declared.Shape.{Shape}
use Rattle.decimal.specs.declared.Shape.TheVariants.{Whole, Fixed, Expo}
use Rattle.decimal.specs.Written.{Written, blank as blank_written}
use Rattle.bad_byte.specs.Columns.{column_of, pointed?, front?, early?, sign_of, fits_of, from_blanks, from_ink, wrong?}
use Rattle.bad_byte.specs.declared.Column.{Column}
use Rattle.bad_byte.specs.declared.Column.TheVariants.{Front, Point, Place, Letter, Sign as Signed}
use Rattle.bad_byte.specs.declared.Stage.TheVariants.{Blanks, Behind, Inked, Wrong}
use Rattle.bad_byte.proofs.Accept.{Accept, Goes, go_on}
use Rattle.bad_byte.proofs.Laid.{whole_column_lem, Laid, laid_fixed, laid_expo, begins, ahead}

-- a stage that is wrong is refused
never : {A : Type 0} → wrong? Wrong ≡ false → A
never e = absurd (false≢true (sym e))

-- the first byte behind more fits its column
inked : (s : Shape) (k : Column) (c : ℕ) (cs : List ℕ) → column_of s (length cs) ≡ k → Accept s Inked (c ∷ cs) → (fits_of k c ≡ true) × Accept s Inked cs
inked s k c cs q a = go (fits_of k c) refl (subst (λ (j : Column). Goes s (from_ink j c) cs) q a)
  where
    go : (b : Bool) → fits_of k c ≡ b → Goes s (pick b Inked Wrong) cs → (fits_of k c ≡ true) × Accept s Inked cs
    go true e h = (e, h.1)
    go false e h = never h.0

-- the first byte behind a sign: a blank ahead of the point, or as behind more
data Follows (s : Shape) (c : ℕ) (cs : List ℕ) : Type 0 where
  gap : c ≡ 32 → pointed? s ≡ true → front? (column_of s (length cs)) ≡ true → Accept s Behind cs → Follows s c cs
  ink : Accept s Inked (c ∷ cs) → Follows s c cs

follows : (s : Shape) (c : ℕ) (cs : List ℕ) → Accept s Behind (c ∷ cs) → Follows s c cs
follows s c cs a = go (both_of (both_of (pointed? s) (front? (column_of s (length cs)))) (eqb c 32)) refl a
  where
    go : (b : Bool) → both_of (both_of (pointed? s) (front? (column_of s (length cs)))) (eqb c 32) ≡ b
        → Goes s (pick b Behind (from_ink (column_of s (length cs)) c)) cs → Follows s c cs
    go true e h =
        let f = both_l (both_of (pointed? s) (front? (column_of s (length cs)))) (eqb c 32) e in
        let x = both_r (both_of (pointed? s) (front? (column_of s (length cs)))) (eqb c 32) e in
        gap (eqb-true c 32 x) (both_l (pointed? s) (front? (column_of s (length cs))) f) (both_r (pointed? s) (front? (column_of s (length cs))) f) h.1
    go false e h = ink h

-- the first byte behind blanks alone: a blank, the first of a number, or its sign
data Starts (s : Shape) (c : ℕ) (cs : List ℕ) : Type 0 where
  still : c ≡ 32 → Accept s Blanks cs → Starts s c cs
  fresh : early? (column_of s (length cs)) ≡ true → Accept s Inked (c ∷ cs) → Starts s c cs
  signed : (g : Sign) → c ≡ mark g → front? (column_of s (length cs)) ≡ true → Accept s Behind cs → Starts s c cs

sign_of_lem : (c : ℕ) → sign_of c ≡ true → (g : Sign) × (c ≡ mark g)
sign_of_lem c e = go (eqb c 43) refl e
  where
    go : (b : Bool) → eqb c 43 ≡ b → pick b true (eqb c 45) ≡ true → (g : Sign) × (c ≡ mark g)
    go true q h = (plus, eqb-true c 43 q)
    go false q h = (minus, eqb-true c 45 h)

starts : (s : Shape) (c : ℕ) (cs : List ℕ) → Accept s Blanks (c ∷ cs) → Starts s c cs
starts s c cs a = go (column_of s (length cs)) refl a
  where
    by : (k : Column) → column_of s (length cs) ≡ k → (x y z : Bool) → eqb c 32 ≡ x → both_of (early? k) (fits_of k c) ≡ y → both_of (front? k) (sign_of c) ≡ z
        → Goes s (pick x Blanks (pick y Inked (pick z Behind Wrong))) cs → Starts s c cs
    by k e true y z p q r h = still (eqb-true c 32 p) h.1
    by k e false true z p q r h =
        fresh (ap early? e ∙ both_l (early? k) (fits_of k c) q)
        (go_on s Inked c cs (ap (λ (j : Column). from_ink j c) e ∙ ap (λ (b : Bool). pick b Inked Wrong) (both_r (early? k) (fits_of k c) q)) refl h.1)
    by k e false false true p q r h =
        let g = sign_of_lem c (both_r (front? k) (sign_of c) r) in
        signed g.0 g.1 (ap front? e ∙ both_l (front? k) (sign_of c) r) h.1
    by k e false false false p q r h = never h.0

    go : (k : Column) → column_of s (length cs) ≡ k → Goes s (from_blanks k c) cs → Starts s c cs
    go k e h = by k e (eqb c 32) (both_of (early? k) (fits_of k c)) (both_of (front? k) (sign_of c)) refl refl refl h

-- what a pointed number leaves: digits, the point, d digits, and t bytes that are accepted behind them
record Places (s : Shape) (d t : ℕ) (xs : List ℕ) : Type 0 where
  ps : List ℕ
  tail : List ℕ
  bytes : xs ≡ ps ++ tail
  digits : Numeral ps
  many : length ps ≡ d
  left : length tail ≡ t
  rest : Accept s Inked tail

record Dotted (s : Shape) (d t : ℕ) (xs : List ℕ) : Type 0 where
  ws : List ℕ
  ys : List ℕ
  bytes : xs ≡ ws ++ 46 ∷ ys
  digits : Numeral ws
  places : Places s d t ys

record Gapped (s : Shape) (d t : ℕ) (xs : List ℕ) : Type 0 where
  blanks : ℕ
  ys : List ℕ
  bytes : xs ≡ replicate blanks 32 ++ ys
  number : Dotted s d t ys

-- one digit more at the front, and one blank more
more_places : {s : Shape} {d t : ℕ} {cs : List ℕ} (c : ℕ) → fits_of Place c ≡ true → Places s d t cs → Places s (suc d) t (c ∷ cs)
more_places c f p =
    let w = within_true 48 c 57 f in
    record {
      ps = c ∷ p.ps;
      tail = p.tail;
      bytes = ap (λ (l : List ℕ). c ∷ l) p.bytes;
      digits = (w.0, w.1, p.digits);
      many = ap suc p.many;
      left = p.left;
      rest = p.rest;
    }

more_digits : {s : Shape} {d t : ℕ} {cs : List ℕ} (c : ℕ) → fits_of Front c ≡ true → Dotted s d t cs → Dotted s d t (c ∷ cs)
more_digits c f p =
    let w = within_true 48 c 57 f in
    record { ws = c ∷ p.ws; ys = p.ys; bytes = ap (λ (l : List ℕ). c ∷ l) p.bytes; digits = (w.0, w.1, p.digits); places = p.places }

more_gap : {s : Shape} {d t : ℕ} {cs : List ℕ} (c : ℕ) → c ≡ 32 → Gapped s d t cs → Gapped s d t (c ∷ cs)
more_gap c e p = record { blanks = suc p.blanks; ys = p.ys; bytes = cc (e, p.bytes); number = p.number }

module _ {s : Shape} {d t : ℕ} (laid : Laid s d t) where
  places : (e : ℕ) (xs : List ℕ) → e ≤ d → length xs ≡ e + t → Accept s Inked xs → Places s e t xs
  places zero xs h l a = record { ps = []; tail = xs; bytes = refl; digits = tt; many = refl; left = omega arith; rest = a }
  places (suc e) [] h l a = absurd (omega arith)
  places (suc e) (c ∷ cs) h l a =
      let i = inked s Place c cs (laid.place (length cs) (omega arith) (omega arith)) a in
      more_places c i.0 (places e cs (omega arith) (omega arith) i.1)

  dotted : (xs : List ℕ) → d + t < length xs → Accept s Inked xs → Dotted s d t xs
  dotted [] h a = absurd (omega arith)
  dotted (c ∷ cs) h a = go (eqb (length cs) (d + t)) refl (dotted cs)
    where
      go : (b : Bool) → eqb (length cs) (d + t) ≡ b → (d + t < length cs → Accept s Inked cs → Dotted s d t cs) → Dotted s d t (c ∷ cs)
      go true q r =
          let e = eqb-true (length cs) (d + t) q in
          let i = inked s Point c cs (laid.dot (length cs) e) a in
          record {
            ws = [];
            ys = cs;
            bytes = ap (λ (b : ℕ). b ∷ cs) (eqb-true c 46 i.0);
            digits = tt;
            places = places d cs (omega arith) e i.1;
          }
      go false q r =
          let n = eqb-false (length cs) (d + t) q in
          let i = inked s Front c cs (laid.front (length cs) (omega arith)) a in
          more_digits c i.0 (r (omega arith) i.1)

  gapped : (xs : List ℕ) → d + t < length xs → Accept s Behind xs → Gapped s d t xs
  gapped [] h a = absurd (omega arith)
  gapped (c ∷ cs) h a = go (follows s c cs a) (gapped cs)
    where
      go : Follows s c cs → (d + t < length cs → Accept s Behind cs → Gapped s d t cs) → Gapped s d t (c ∷ cs)
      go (gap e p f b) r = more_gap c e (r (ahead laid (length cs) f) b)
      go (ink b) r = record { blanks = 0; ys = c ∷ cs; bytes = refl; number = dotted (c ∷ cs) h b }

-- what is well written, whatever it says
abbrev pub Sound : Shape → List ℕ → Type 0
Sound s bs = (r : Written) × Good true s bs r

-- one blank more at the front
more_blank : {s : Shape} {bs : List ℕ} {r : Written} → Good true s bs r → Good true s (32 ∷ bs) r
more_blank (blank k n) = blank k (suc n)
more_blank (whole (whole b ds l n h)) = whole (whole (suc b) ds l n h)
more_blank (fixed (point b ws ps l n m e)) = fixed (point (suc b) ws ps l n m e)
more_blank (expo (point b ws ps l n m e) g ds k f) = expo (point (suc b) ws ps l n m e) g ds k f

-- behind the places of an F field nothing is left
empty : (xs : List ℕ) → length xs ≡ 0 → xs ≡ []
empty [] e = refl
empty (x ∷ xs) e = absurd (omega arith)

fixed_sound : (d : ℕ) {g : List ℕ} {m : Bool} {xs : List ℕ} → Lead true g m → Dotted (Fixed d) d 0 xs → Sound (Fixed d) (g ++ xs)
fixed_sound d {g} l x =
    let p = x.places in
    let q = x.bytes ∙ ap (λ (l : List ℕ). x.ws ++ 46 ∷ l) (p.bytes ∙ ap (λ (l : List ℕ). p.ps ++ l) (empty p.tail p.left) ∙ append-nil p.ps) in
    subst (λ (t : List ℕ). Sound (Fixed d) (g ++ t)) (sym q) (_, fixed (point 0 x.ws p.ps l x.digits p.digits p.many))

-- behind those of an E field its exponent
record Scale (xs : List ℕ) : Type 0 where
  sign : Sign
  ds : List ℕ
  bytes : xs ≡ 69 ∷ (mark sign ∷ ds)
  digits : Numeral ds
  many : length ds ≡ 2

scale : (d : ℕ) (xs : List ℕ) → length xs ≡ 4 → Accept (Expo d) Inked xs → Scale xs
scale d [] l h = absurd (omega arith)
scale d (a ∷ []) l h = absurd (omega arith)
scale d (a ∷ (b ∷ [])) l h = absurd (omega arith)
scale d (a ∷ (b ∷ (c ∷ []))) l h = absurd (omega arith)
scale d (a ∷ (b ∷ (c ∷ (e ∷ (f ∷ fs))))) l h = absurd (omega arith)
scale d (a ∷ (b ∷ (c ∷ (e ∷ [])))) l h =
    let x = inked (Expo d) Letter a (b ∷ (c ∷ (e ∷ []))) refl h in
    let y = inked (Expo d) Signed b (c ∷ (e ∷ [])) refl x.1 in
    let z = inked (Expo d) Place c (e ∷ []) refl y.1 in
    let w = inked (Expo d) Place e [] refl z.1 in
    let g = sign_of_lem b y.0 in
    let i = within_true 48 c 57 z.0 in
    let j = within_true 48 e 57 w.0 in
    record { sign = g.0; ds = c ∷ (e ∷ []); bytes = cc (eqb-true a 69 x.0, g.1); digits = (i.0, i.1, (j.0, j.1, tt)); many = refl }

expo_sound : (d : ℕ) {g : List ℕ} {m : Bool} {xs : List ℕ} → Lead true g m → Dotted (Expo d) d 4 xs → Sound (Expo d) (g ++ xs)
expo_sound d {g} {m} {xs} l x =
    let p = x.places in
    let e = scale d p.tail p.left p.rest in
    let q : g ++ xs ≡ (g ++ (x.ws ++ 46 ∷ p.ps)) ++ 69 ∷ (mark e.sign ∷ e.ds) =
    ap (λ (t : List ℕ). g ++ t) (x.bytes ∙ ap (λ (t : List ℕ). x.ws ++ 46 ∷ t) (p.bytes ∙ ap (λ (t : List ℕ). p.ps ++ t) e.bytes)) ∙ simp append_assoc in
    subst (Sound (Expo d)) (sym q) (_, expo (point 0 x.ws p.ps l x.digits p.digits p.many) e.sign e.ds e.digits e.many)

-- the digits of a whole number
whole_digits : (xs : List ℕ) → Accept Whole Inked xs → Numeral xs
whole_digits [] a = tt
whole_digits (c ∷ cs) a =
    let i = inked Whole (column_of Whole (length cs)) c cs refl a in
    let w = within_true 48 c 57 (sym (whole_column_lem (length cs) c).1 ∙ i.0) in
    (w.0, w.1, whole_digits cs i.1)

whole_signed : (g : Sign) (xs : List ℕ) → front? (column_of Whole (length xs)) ≡ true → Accept Whole Behind xs → Sound Whole (mark g ∷ xs)
whole_signed g [] f a = absurd (false≢true f)
whole_signed g (c ∷ cs) f a = go (follows Whole c cs a)
  where
    go : Follows Whole c cs → Sound Whole (mark g ∷ (c ∷ cs))
    go (gap e p k b) = absurd (false≢true p)
    go (ink b) = (_, whole (whole 0 (c ∷ cs) (with g 0 refl) (whole_digits (c ∷ cs) b) (omega arith)))

-- a number that begins with a sign, and one that does not
with_sign_lem : (s : Shape) (g : Sign) (xs : List ℕ) → front? (column_of s (length xs)) ≡ true → Accept s Behind xs → Sound s (mark g ∷ xs)
with_sign_lem Whole g xs f a = whole_signed g xs f a
with_sign_lem (Fixed d) g xs f a =
    let x = gapped (laid_fixed d) xs (ahead (laid_fixed d) (length xs) f) a in
    subst (λ (t : List ℕ). Sound (Fixed d) (mark g ∷ t)) (sym x.bytes) (fixed_sound d (with g x.blanks tt) x.number)
with_sign_lem (Expo d) g xs f a =
    let x = gapped (laid_expo d) xs (ahead (laid_expo d) (length xs) f) a in
    subst (λ (t : List ℕ). Sound (Expo d) (mark g ∷ t)) (sym x.bytes) (expo_sound d (with g x.blanks tt) x.number)

without : (s : Shape) (c : ℕ) (cs : List ℕ) → early? (column_of s (length cs)) ≡ true → Accept s Inked (c ∷ cs) → Sound s (c ∷ cs)
without Whole c cs e a = (_, whole (whole 0 (c ∷ cs) bare (whole_digits (c ∷ cs) a) (omega arith)))
without (Fixed d) c cs e a = fixed_sound d bare (dotted (laid_fixed d) (c ∷ cs) (omega (arith, begins (laid_fixed d) (length cs) e)) a)
without (Expo d) c cs e a = expo_sound d bare (dotted (laid_expo d) (c ∷ cs) (omega (arith, begins (laid_expo d) (length cs) e)) a)

-- blanks in front of either, or alone
pub rebuilt : (s : Shape) (bs : List ℕ) → Accept s Blanks bs → Sound s bs
rebuilt s [] a = (blank_written, blank s 0)
rebuilt s (c ∷ cs) a = go (starts s c cs a) (rebuilt s cs)
  where
    go : Starts s c cs → (Accept s Blanks cs → Sound s cs) → Sound s (c ∷ cs)
    go (still e b) r = let x = r b in subst (λ (n : ℕ). Sound s (n ∷ cs)) (sym e) (x.0, more_blank x.1)
    go (fresh e b) r = without s c cs e b
    go (signed g e f b) r = subst (λ (n : ℕ). Sound s (n ∷ cs)) (sym e) (with_sign_lem s g cs f b)
