-- Lists of numbers that are written one after the other, and read at an index: `list_from` by its indexes.
use Prim.Native.Nat.{ℕ, zero, suc, ◌+◌, ◌<◌}
use mathlib.Core.Path.{◌≡◌, refl, sym, ap, ◌∙◌}
use mathlib.Core.List.{List, [], ◌∷◌, ◌++◌}
use native.Mathlib.Omega.{arith}
use lib.ListN.{length, get_or, set, drop}
use lib.Seq.{ext_get_or}
use Rattle.c_state.specs.Numbers.{list_from}

pub from_length : (g : ℕ → ℕ) (i n : ℕ) → length (list_from g i n) ≡ n
unfolding list_from
from_length g i zero = refl
from_length g i (suc n) = ap suc (from_length g (suc i) n)

pub from_at : (g : ℕ → ℕ) (i n k : ℕ) → k < n → get_or (list_from g i n) k 0 ≡ g (i + k)
unfolding list_from
from_at g i zero k h = absurd (omega arith)
from_at g i (suc n) zero h = ap g (let e : i ≡ i + 0 = omega arith in e)
from_at g i (suc n) (suc k) h = from_at g (suc i) n k (omega arith) ∙ ap g (let e : suc i + k ≡ i + suc k = omega arith in e)

-- a table filled from the front with what a function says of each index is, once full, that list
pub fill_done : (g : ℕ → ℕ) (a : List ℕ) (n : ℕ) → length a ≡ n → ((k : ℕ) → k < n → get_or a k 0 ≡ g k) → a ≡ list_from g 0 n
fill_done g a n e below =
    ext_get_or 0 a (list_from g 0 n) (e ∙ sym (from_length g 0 n))
    (λ k l. let h : k < n = omega (arith, from_length g 0 n) in below k h ∙ sym (from_at g 0 n k h ∙ ap g (let q : 0 + k ≡ k = omega arith in q)))

-- one more number behind those written: the next old one is replaced
from_more : (g : ℕ → ℕ) (i n v : ℕ) (old : List ℕ) → n < length old → v ≡ g (i + n) → set (list_from g i n ++ drop n old) n v ≡ list_from g i (suc n) ++ drop
    (suc n) old
unfolding list_from
from_more g i zero v [] h e = absurd (omega arith)
from_more g i zero v (x ∷ old) h e = ap (λ (y : ℕ). y ∷ old) (e ∙ ap g (let q : i + 0 ≡ i = omega arith in q))
from_more g i (suc n) v [] h e = absurd (omega arith)
from_more g i (suc n) v (x ∷ old) h e = ap (λ (l : List ℕ). g i ∷ l) (from_more g (suc i) n v old (omega arith) (e
    ∙ ap g (let q : i + suc n ≡ suc i + n = omega arith in q)))

pub written_more : (g : ℕ → ℕ) (n v : ℕ) (old : List ℕ) → n < length old → v ≡ g n → set (list_from g 0 n ++ drop n old) n v ≡ list_from g 0 (n + 1) ++ drop
    (n + 1) old
written_more g n v old h e =
    from_more g 0 n v old h (e ∙ ap g (let q : n ≡ 0 + n = omega arith in q))
    ∙ ap (λ (i : ℕ). list_from g 0 i ++ drop i old) (let q : suc n ≡ n + 1 = omega arith in q)
