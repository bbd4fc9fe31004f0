-- A number's digits as `io` writes them are its numeral: the fewest digits that hold it have no 0 in front. By induction over how many they are.
use Prim.Native.Nat.{ℕ, zero, suc, ◌+◌, ◌-◌, ◌/◌, ◌%◌, ◌^◌, ◌≤◌, ◌<◌}
use mathlib.Core.Path.{◌≡◌, sym, ap, ◌∙◌, subst}
use mathlib.Core.List.{List, [], ◌∷◌, ◌++◌}
use mathlib.Core.Bool.{Bool, true, false}
use native.Mathlib.Omega.{arith}
use native.Mathlib.Nat.{pow-suc, one-le-pow, pow-le-pow_right}
use mathlib.Core.Logic.{⊎_elim}
use lib.Dec.{leb, ltb}
use lib.ListN.{length, length-append}
use borrow.Author.Tests.{lt-ltb, le-ltb, leb-true, leb-false}
use Rattle.words.specs.Tests.{pick}
use Rattle.words.proofs.Laws.{cases}
use Rattle.io.specs.Digits.{hex_digit_ascii, last_digits, IsDigitCount}
use Rattle.writing.specs.Writing.{numeral_of, numeral}

glyph_is : (d : ℕ) → d < 10 → hex_digit_ascii d ≡ 48 + d
glyph_is d h = simp (lt-ltb d 10 h)

numeral_last : (most n : ℕ) → n < 10 → numeral_of (suc most) n ≡ (48 + n) ∷ []
unfolding numeral_of
numeral_last most n h = simp (lt-ltb n 10 h)

numeral_more : (most n : ℕ) → 10 ≤ n → numeral_of (suc most) n ≡ numeral_of most (n / 10) ++ ((48 + n % 10) ∷ [])
unfolding numeral_of
numeral_more most n h = simp (le-ltb n 10 h)

pub digits_are : (k most n : ℕ) → k ≤ most → IsDigitCount 10 1 n k → last_digits 10 k n ≡ numeral_of most n
digits_are zero most n h f = absurd (omega arith)
digits_are (suc zero) zero n h f = absurd (omega arith)
digits_are (suc zero) (suc most) n h f =
    let l : n < 10 = f.1 in
    let m : n % 10 ≡ n = omega arith in
    ap (λ (d : ℕ). d ∷ []) (glyph_is (n % 10) (omega arith) ∙ ap (λ (d : ℕ). 48 + d) m) ∙ sym (numeral_last most n l)
digits_are (suc (suc k)) zero n h f = absurd (omega arith)
digits_are (suc (suc k)) (suc most) n h f =
    let a = pow-suc 10 (suc k) in
    let b = pow-suc 10 k in
    let one : 1 ≤ 10 ^ k = one-le-pow k 10 (omega arith) in
    let e : suc (suc k) - 1 ≡ suc k = omega arith in
    let low : 10 ^ suc k ≤ n = subst (λ (i : ℕ). 10 ^ i ≤ n) e (f.2 (omega arith)) in
    let high : n < 10 ^ suc (suc k) = f.1 in
    let fewer : IsDigitCount 10 1 (n / 10) (suc k) =
    (omega arith, omega arith, λ l. subst (λ (i : ℕ). 10 ^ i ≤ n / 10) (let q : k ≡ suc k - 1 = omega arith in q) (omega arith)) in
    ap (λ (t : List ℕ). t ++ (hex_digit_ascii (n % 10) ∷ [])) (digits_are (suc k) most (n / 10) (omega arith) fewer)
    ∙ ap (λ (d : ℕ). numeral_of most (n / 10) ++ (d ∷ [])) (glyph_is (n % 10) (omega arith))
    ∙ sym (numeral_more most n (omega arith))

-- a number of 64 bits has at most 20 digits
pub few_digits : (k n : ℕ) → n < 2 ^ 64 → IsDigitCount 10 1 n k → k ≤ 20
few_digits k n h f = ⊎_elim (λ a. leb-true k 20 a) (λ a. absurd (go (leb-false k 20 a))) (cases (leb k 20))
  where
    go : 20 < k → ⊥
    go l =
        let p : 10 ^ 20 ≤ 10 ^ (k - 1) = pow-le-pow_right (omega arith) {i = 20} {j = k - 1} (omega arith) in
        let q : 10 ^ (k - 1) ≤ n = f.2 (omega arith) in
        omega arith

-- what `io::decimal` wrote: the first k bytes
pub numeral_is : (k n : ℕ) → k ≤ 20 → IsDigitCount 10 1 n k → last_digits 10 k n ≡ numeral n
numeral_is k n h f = digits_are k 20 n h f

-- no numeral is longer than its most
pub numeral_length : (most n : ℕ) → length (numeral_of most n) ≤ most
unfolding numeral_of
numeral_length zero n = omega arith
numeral_length (suc most) n = go (ltb n 10) (numeral_length most (n / 10))
  where
    last : List ℕ
    last = (48 + n % 10) ∷ []

    go : (b : Bool) → length (numeral_of most (n / 10)) ≤ most → length (pick b ((48 + n) ∷ []) (numeral_of most (n / 10) ++ last)) ≤ suc most
    go true h = omega arith
    go false h = omega (arith, length-append (numeral_of most (n / 10)) last, h)
