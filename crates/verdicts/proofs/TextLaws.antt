-- A text is compared byte by byte: what is left to compare after each, by one step of the definition.
use Prim.Native.Nat.{ℕ, ◌+◌, ◌≤◌, ◌<◌}
use mathlib.Core.Path.{◌≡◌, sym, ap}
use mathlib.Core.List.{List}
use mathlib.Core.Bool.{true, false}
use native.Mathlib.Omega.{arith}
use native.Mathlib.Nat.{add-zero}
use lib.ListN.{length, get_or, drop, drop_of_length-le}
use borrow.Author.Tests.{eq-eqb, ne_eqb}
use Rattle.words.specs.Words.{byte_at}
use Rattle.plan.proofs.RunLaws.{drop_more}
use Rattle.verdicts.specs.Tests.{text_at}

module _ (r : List ℕ) (at : ℕ) (t : List ℕ) where
  pub text_start : text_at r at t ≡ text_at r (at + 0) (drop 0 t)
  text_start = ap (λ (a : ℕ). text_at r a t) (sym (add-zero at))

  pub text_end : (i : ℕ) → length t ≤ i → text_at r (at + i) (drop i t) ≡ true
  unfolding text_at
  text_end i h = rw (drop_of_length-le t h)

  module _ (i : ℕ) (h : i < length t) where
    pub text_off : (byte_at r (at + i) ≡ get_or t i 0 → ⊥) → text_at r (at + i) (drop i t) ≡ false
    unfolding text_at
    text_off n = rw (drop_more t i h, ne_eqb (byte_at r (at + i)) (get_or t i 0) n)

    pub text_next : byte_at r (at + i) ≡ get_or t i 0 → text_at r (at + i) (drop i t) ≡ text_at r (at + (i + 1)) (drop (i + 1) t)
    unfolding text_at
    text_next e =
        let a : at + i + 1 ≡ at + (i + 1) = omega arith in
        rw (drop_more t i h, eq-eqb (byte_at r (at + i)) (get_or t i 0) e, a)

pub ruleset steps = (text_start, text_off, text_next, text_end)
