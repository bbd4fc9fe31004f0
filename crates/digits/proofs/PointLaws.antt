-- A mantissa read in one go: up to the point only the blanks before the first byte that is none count, and a point that is a blank is no point.
use Prim.Native.Nat.{ℕ, zero, suc, ◌+◌, ◌-◌, ◌^◌, ◌≤◌, ◌<◌}
use mathlib.Core.Path.{◌≡◌, refl, sym, ap, ◌∙◌}
use mathlib.Core.List.{List, [], ◌∷◌}
use mathlib.Core.Bool.{Bool, true, false}
use Rattle.std.proofs.Common.{Option, Some, None}
use native.Mathlib.Omega.{arith}
use lib.Dec.{eqb, leb}
use lib.ListN.{length, get_or, take, drop, length-drop}
use lib.Seq.{slice, take-length, take-take, get_or-take, length-take-le, drop-drop}
use borrow.Author.Tests.{eqb-true, eqb-false, leb-true, eq-eqb, ne_eqb, le-leb, lt-leb}
use Rattle.words.specs.Tests.{pick}
use Rattle.digits.specs.Segments.{after_blanks, digits_of, Under, with_sign, sign_of, signs, head_of, on_part, on_digits, pointed_of, mantissa_of, Skipped}
use Rattle.digits.specs.declared.Signed.{Signed}
use Rattle.digits.proofs.Laws.{one, none, few, shorter, few_behind, inked, one_byte, signed}

-- a rest of the bytes is not all of them and one more
too_long_lem : (k : ℕ) (c : ℕ) (cs : List ℕ) → drop k cs ≡ c ∷ cs → ⊥
too_long_lem k c cs e = let l : length (drop k cs) ≡ length (c ∷ cs) = ap length e in omega (arith, l, length-drop k cs)

-- what is left after the blanks is what is left after the blanks of the front, so far as it goes
front : (f : List ℕ) (k h : ℕ) → drop k f ≡ after_blanks f → k ≤ h → after_blanks (take h f) ≡ drop k (take h f)
front [] zero zero e l = refl
front [] zero (suc h) e l = refl
front [] (suc k) zero e l = absurd (omega arith)
front [] (suc k) (suc h) e l = refl
front (c ∷ cs) zero zero e l = refl
front (c ∷ cs) zero (suc h) e l = go (eqb c 32) e
  where
    go : (b : Bool) → c ∷ cs ≡ pick b (after_blanks cs) (c ∷ cs) → pick b (after_blanks (take h cs)) (c ∷ take h cs) ≡ c ∷ take h cs
    go true q = let n : length (c ∷ cs) ≡ length (after_blanks cs) = ap length q in absurd (omega (arith, n, shorter cs))
    go false q = refl
front (c ∷ cs) (suc k) zero e l = absurd (omega arith)
front (c ∷ cs) (suc k) (suc h) e l = go (eqb c 32) e (λ q. front cs k h q (omega arith))
  where
    go : (b : Bool) → drop k cs ≡ pick b (after_blanks cs) (c ∷ cs) → (drop k cs ≡ after_blanks cs → after_blanks (take h cs) ≡ drop k (take h cs))
        → pick b (after_blanks (take h cs)) (c ∷ take h cs) ≡ drop k (take h cs)
    go true q r = r q
    go false q r = absurd (too_long_lem k c cs q)

-- before the first byte that is no blank there are blanks
before : (f : List ℕ) (k h : ℕ) → drop k f ≡ after_blanks f → k ≤ length f → h < k → get_or f h 0 ≡ 32
before [] k h e l n = absurd (omega arith)
before (c ∷ cs) zero h e l n = absurd (omega arith)
before (c ∷ cs) (suc k) h e l n = go (eqb c 32) refl e h n (before cs k)
  where
    go : (b : Bool) → eqb c 32 ≡ b → drop k cs ≡ pick b (after_blanks cs) (c ∷ cs) → (h : ℕ) → h < suc k
        → ((h : ℕ) → drop k cs ≡ after_blanks cs → k ≤ length cs → h < k → get_or cs h 0 ≡ 32) → get_or (c ∷ cs) h 0 ≡ 32
    go true p q zero m r = eqb-true c 32 p
    go true p q (suc h) m r = r h q (omega arith) (omega arith)
    go false p q h m r = absurd (too_long_lem k c cs q)

-- digits, the point and digits, by what was read
module _ (f : List ℕ) (from h end : ℕ) where
  pub late : h < from → pointed_of f from h end ≡ None
  unfolding pointed_of
  late l = rw (lt-leb from h l)

  pub stray : from ≤ h → digits_of 0 (after_blanks (slice from h f)) ≡ None → pointed_of f from h end ≡ None
  unfolding pointed_of
  stray l e = rw (le-leb from h l, e)

  pub pointless : (a : ℕ) → from ≤ h → digits_of 0 (after_blanks (slice from h f)) ≡ Some a → (get_or f h 0 ≡ 46 → ⊥) → pointed_of f from h end ≡ None
  unfolding pointed_of
  pointless a l e n = rw (le-leb from h l, e, ne_eqb (get_or f h 0) 46 n)

  pub both : (a : ℕ) → from ≤ h → digits_of 0 (after_blanks (slice from h f)) ≡ Some a → get_or f h 0 ≡ 46
      → pointed_of f from h end ≡ digits_of a (slice (h + 1) end f)
  unfolding pointed_of
  both a l e q = rw (le-leb from h l, e, eq-eqb (get_or f h 0) 46 q)

  -- they fit
  pub head_few : (d : Option ℕ) → d ≡ digits_of 0 (after_blanks (slice from h f)) → h ≤ length f → from ≤ h → Under (10 ^ (h - from)) d
  head_few d e l k = rw e (few_behind f from h (h - from) l (omega arith))

  pub fits : h < end → end ≤ length f → end ≤ 18 → Under (10 ^ 18) (pointed_of f from h end)
  unfolding pointed_of
  fits l k m = go (leb from h) refl (digits_of 0 (after_blanks (slice from h f))) refl (eqb (get_or f h 0) 46)
    where
      go : (b : Bool) → leb from h ≡ b → (d : Option ℕ) → d ≡ digits_of 0 (after_blanks (slice from h f)) → (c : Bool)
          → Under (10 ^ 18) (pick b (on_digits d (λ a. pick c (digits_of a (slice (h + 1) end f)) None)) None)
      go true p (Some a) q true = few f (h + 1) end a (h - from) 18 k (head_few (Some a) q (omega arith) (leb-true from h p)) (omega arith)
      go true p (Some a) q false = tt
      go true p None q c = tt
      go false p d q c = tt

-- a sign joins the digits before the point or the digits on both sides of it
joins : (s : Bool) (d : Option ℕ) (p : Bool) (ts : List ℕ)
    → on_part (with_sign s d) None (λ t a. pick p (with_sign t (digits_of a ts)) None) ≡ with_sign s (on_digits d (λ a. pick p (digits_of a ts) None))
joins s (Some a) true ts = refl
joins s (Some a) false ts = refl
joins s None p ts = refl

all_none : (x : Option Signed) → on_part {A = Option Signed} x None (λ s a. None) ≡ None
all_none (Some x) = refl
all_none None = refl

-- the part of a mantissa that stands from k on, up to the point at h
module _ (f : List ℕ) (k h end : ℕ) where
  -- a byte before the point
  early : k < h → h ≤ length f → (get_or f k 0 ≡ 32 → ⊥)
      → on_part (sign_of true (slice k h f)) None (λ s a. pick (eqb (get_or f h 0) 46) (with_sign s (digits_of a (slice (h + 1) end f))) None)
      ≡ with_sign (eqb (get_or f k 0) 45) (pointed_of f (k + signs (get_or f k 0)) h end)
  unfolding pointed_of
  early l m ink =
      let c = get_or f k 0 in
      let q : sign_of true (slice k h f) ≡ with_sign (eqb c 45) (digits_of 0 (after_blanks (slice (k + signs c) h f))) =
      ap (sign_of true) (one f k h l m) ∙ signed c (slice (k + 1) h f) ink
      ∙ ap (λ (x : List ℕ). with_sign (eqb c 45) (digits_of 0 (after_blanks (drop (signs c) x)))) (sym (one f k h l m))
      ∙ ap (λ (x : List ℕ). with_sign (eqb c 45) (digits_of 0 (after_blanks x))) (drop-drop (signs c) k (take h f)) in
      rw (q, le-leb (k + signs c) h (omega (arith, one_byte c)))
      (joins (eqb c 45) (digits_of 0 (after_blanks (slice (k + signs c) h f))) (eqb (get_or f h 0) 46) (slice (h + 1) end f))

-- the byte at the point's own place
at_point : (f : List ℕ) (h end : ℕ) → on_part (sign_of true (slice h h f)) None
    (λ s a. pick (eqb (get_or f h 0) 46) (with_sign s (digits_of a (slice (h + 1) end f))) None)
    ≡ with_sign (eqb (get_or f h 0) 45) (pointed_of f (h + signs (get_or f h 0)) h end)
at_point f h end = rw (none f h h (omega arith) (omega arith)) (go (eqb (get_or f h 0) 45) (eqb (get_or f h 0) 43) refl refl)
  where
    empty : digits_of 0 (after_blanks (slice h h f)) ≡ Some 0
    empty = rw (none f h h (omega arith) (omega arith))

    bare : (p : Bool) → eqb (get_or f h 0) 46 ≡ p → pick p (with_sign false (digits_of 0 (slice (h + 1) end f))) None ≡ with_sign false (pointed_of f h h end)
    bare true e = ap (with_sign false) (sym (both f h h end 0 (omega arith) empty (eqb-true (get_or f h 0) 46 e)))
    bare false e = ap (with_sign false) (sym (pointless f h h end 0 (omega arith) empty (eqb-false (get_or f h 0) 46 e)))

    go : (a b : Bool) → eqb (get_or f h 0) 45 ≡ a → eqb (get_or f h 0) 43 ≡ b
        → pick (eqb (get_or f h 0) 46) (with_sign false (digits_of 0 (slice (h + 1) end f))) None ≡ with_sign a
        (pointed_of f (h + pick a 1 (pick b 1 0)) h end)
    go true b p q =
        let e : get_or f h 0 ≡ 45 = eqb-true (get_or f h 0) 45 p in
        rw (late f (h + 1) h end (omega arith), ne_eqb (get_or f h 0) 46 (omega arith))
    go false true p q =
        let e : get_or f h 0 ≡ 43 = eqb-true (get_or f h 0) 43 q in
        rw (late f (h + 1) h end (omega arith), ne_eqb (get_or f h 0) 46 (omega arith))
    go false false p q =
        let z : h + 0 ≡ h = omega arith in
        bare (eqb (get_or f h 0) 46) refl ∙ ap (λ (x : ℕ). with_sign false (pointed_of f x h end)) (sym z)

-- the mantissa of the bytes up to end, by the byte at k, the field's first that is no blank
module _ (f : List ℕ) (k d end : ℕ) (skips : Skipped f 0 (length f) k) (hd : d + 1 ≤ end) (he : end ≤ length f) where
  after : drop k f ≡ after_blanks f
  after = ap (drop k) (sym (take-length f)) ∙ skips.rest ∙ ap after_blanks (take-length f)

  cut : mantissa_of true d (take end f)
      ≡ on_part (head_of true (take (end - d - 1) f)) None
      (λ s a. pick (eqb (get_or f (end - d - 1) 0) 46) (with_sign s (digits_of a (slice (end - d - 1 + 1) end f))) None)
  unfolding mantissa_of
  cut =
      let e : end - d - 1 + 1 ≡ end - d = omega arith in
      rw (e, length-take-le end f he, take-take (end - d - 1) end f (omega arith), get_or-take end f (end - d - 1) 0 (omega arith))

  pub blank_point : end - d - 1 < k → mantissa_of true d (take end f) ≡ None
  blank_point l = cut ∙ rw (before f k (end - d - 1) after skips.upto l) (all_none (head_of true (take (end - d - 1) f)))

  pub from_byte : k ≤ end - d - 1
      → mantissa_of true d (take end f) ≡ with_sign (eqb (get_or f k 0) 45) (pointed_of f (k + signs (get_or f k 0)) (end - d - 1) end)
  from_byte l = cut ∙ rw (front f k (end - d - 1) after l) (go (eqb k (end - d - 1)) refl)
    where
      ink : get_or f k 0 ≡ 32 → ⊥
      ink = inked f (get_or f k 0) (slice (k + 1) (length f) f)
          (sym after ∙ ap (drop k) (sym (take-length f)) ∙ one f k (length f) (omega arith) (omega arith))

      go : (b : Bool) → eqb k (end - d - 1) ≡ b
          → on_part (sign_of true (slice k (end - d - 1) f)) None
          (λ s a. pick (eqb (get_or f (end - d - 1) 0) 46) (with_sign s (digits_of a (slice (end - d - 1 + 1) end f))) None)
          ≡ with_sign (eqb (get_or f k 0) 45) (pointed_of f (k + signs (get_or f k 0)) (end - d - 1) end)
      go true e = rw (eqb-true k (end - d - 1) e) (at_point f (end - d - 1) end)
      go false e = let n = eqb-false k (end - d - 1) e in early f k (end - d - 1) end (omega (arith, n)) (omega arith) ink
