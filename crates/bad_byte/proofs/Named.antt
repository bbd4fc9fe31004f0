-- The place that is found in badly written bytes is their first bad byte, and no other is: what the automaton accepts is what is well written, and the
-- place divides what it accepts.
use Prim.Native.Nat.{ℕ, ◌+◌, ◌-◌, ◌≤◌, ◌<◌}
use mathlib.Core.Path.{◌≡◌, refl, sym, ap, ◌∙◌, subst}
use mathlib.Core.List.{List, ◌++◌, append_assoc}
use mathlib.Core.Bool.{Bool, true, false}
use native.Mathlib.Numerals.{add-one}
use native.Mathlib.Omega.{arith}
use lib.Dec.{eqb, ltb}
use lib.ListN.{length, take, drop, take-append-drop}
use lib.Seq.{take_all, take-add}
use borrow.Author.Tests.{eqb-true, eqb-false, ltb-true, ltb-false}
use Rattle.decimal.specs.Grammar.{Good}
use Rattle.decimal.specs.declared.Shape.{Shape}
use Rattle.decimal.specs.Written.{Written}
use Rattle.bad_byte.specs.BadByte.{Begins, BadAt}
use Rattle.bad_byte.specs.Columns.{bad_from, bad_in}
use Rattle.bad_byte.specs.declared.Stage.TheVariants.{Blanks}
use Rattle.bad_byte.proofs.Accept.{Divides, divides}
use Rattle.bad_byte.proofs.Accepted.{accepted}
use Rattle.bad_byte.proofs.Rebuilt.{rebuilt}

-- for any bytes, no matter how many: the place is at most their number
pub at_most : (s : Shape) (bs : List ℕ) → bad_in s bs ≤ length bs
unfolding bad_in
at_most s bs = (divides s Blanks bs refl).within

-- of bytes that are not well written it is one
short : (s : Shape) (bs : List ℕ) → ((r : Written) → Good true s bs r → ⊥) → bad_from s Blanks bs < length bs
short s bs n = go (eqb (bad_from s Blanks bs) (length bs)) refl
  where
    go : (b : Bool) → eqb (bad_from s Blanks bs) (length bs) ≡ b → bad_from s Blanks bs < length bs
    go true e =
        let g = rebuilt s bs ((divides s Blanks bs refl).all (eqb-true (bad_from s Blanks bs) (length bs) e)) in
        absurd (n g.0 g.1)
    go false e = omega (arith, (divides s Blanks bs refl).within, eqb-false (bad_from s Blanks bs) (length bs) e)

-- a place that divides what is accepted divides what is well written
divided : (s : Shape) (bs : List ℕ) (i : ℕ) → i < length bs → Divides s Blanks bs i → BadAt s (length bs) bs i
divided s bs i h d =
    let g = rebuilt s (take i bs ++ d.before.0) d.before.2 in
    record {
      before = (d.before.0, g.0, d.before.1, g.1);
      none = rw (add-one i) (λ b. d.none h b.0 b.2 (accepted b.3));
    }

-- bad-named: in badly written bytes the place that is found is the first bad byte, over shape, width and places
pub bad_named : (s : Shape) (bs : List ℕ) → ((r : Written) → Good true s bs r → ⊥) → BadAt s (length bs) bs (bad_in s bs)
unfolding bad_in
bad_named s bs n = divided s bs (bad_from s Blanks bs) (short s bs n) (divides s Blanks bs refl)

-- what begins with more bytes begins with fewer
fewer : (s : Shape) (n : ℕ) (xs ys : List ℕ) → Begins s n (xs ++ ys) → Begins s n xs
fewer s n xs ys b =
    let q : (xs ++ ys) ++ b.0 ≡ xs ++ (ys ++ b.0) = append_assoc xs ys b.0 in
    (ys ++ b.0, b.1, ap length (sym q) ∙ b.2, subst (λ (t : List ℕ). Good true s t b.1) q b.3)

-- so no bad byte stands before another
apart : (s : Shape) (n : ℕ) (bs : List ℕ) (i j : ℕ) → i < j → BadAt s n bs i → BadAt s n bs j → ⊥
apart s n bs i j h x y =
    let e : j ≡ (i + 1) + (j - (i + 1)) = omega arith in
    let q : take j bs ≡ take (i + 1) bs ++ take (j - (i + 1)) (drop (i + 1) bs) = ap (λ (m : ℕ). take m bs) e ∙ take-add (i + 1) (j - (i + 1)) bs in
    x.none (fewer s n (take (i + 1) bs) (take (j - (i + 1)) (drop (i + 1) bs)) (subst (Begins s n) q y.before))

-- there is no other
pub bad_one : (s : Shape) (n : ℕ) (bs : List ℕ) (i j : ℕ) → BadAt s n bs i → BadAt s n bs j → i ≡ j
bad_one s n bs i j x y = go (ltb i j) (ltb j i) refl refl
  where
    go : (a b : Bool) → ltb i j ≡ a → ltb j i ≡ b → i ≡ j
    go true b p q = absurd (apart s n bs i j (ltb-true i j p) x y)
    go false true p q = absurd (apart s n bs j i (ltb-true j i q) y x)
    go false false p q = omega (arith, ltb-false i j p, ltb-false j i q)

-- it is one of these bytes
pub bad_inside : (s : Shape) (n : ℕ) (bs : List ℕ) (i : ℕ) → BadAt s n bs i → i < length bs
bad_inside s n bs i x = go (ltb i (length bs)) refl
  where
    go : (b : Bool) → ltb i (length bs) ≡ b → i < length bs
    go true e = ltb-true i (length bs) e
    go false e =
        let h = ltb-false i (length bs) e in
        let q : take i bs ≡ take (i + 1) bs = take_all i bs h ∙ sym (take_all (i + 1) bs (omega arith)) in
        absurd (x.none (subst (Begins s n) q x.before))

-- well-written bytes have none
pub bad_never : (s : Shape) (bs : List ℕ) (i : ℕ) {r : Written} → Good true s bs r → BadAt s (length bs) bs i → ⊥
bad_never s bs i {r} g x =
    let q = take-append-drop (i + 1) bs in
    x.none (drop (i + 1) bs, r, ap length q, subst (λ (t : List ℕ). Good true s t r) (sym q) g)
