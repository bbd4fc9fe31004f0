-- One column along the bytes that are left, by computing the definition at the byte that stands there.
use Prim.Native.Nat.{ℕ, suc, ◌+◌, ◌-◌, ◌<◌}
use mathlib.Core.Path.{◌≡◌, ap, ◌∙◌}
use mathlib.Core.List.{List}
use mathlib.Core.Bool.{Bool, true, false}
use native.Mathlib.Omega.{arith}
use native.Mathlib.Numerals.{add-one}
use lib.ListN.{length, get_or, drop, length-drop}
use lib.Seq.{drop-cons, drop-length}
use Rattle.words.specs.Tests.{pick}
use Rattle.decimal.specs.declared.Shape.{Shape}
use Rattle.bad_byte.specs.Columns.{column_of, pointed?, next_of, wrong?, bad_from, bad_in}
use Rattle.bad_byte.specs.declared.Stage.{Stage}
use Rattle.bad_byte.specs.declared.Stage.TheVariants.{Blanks}

-- what stands before the column behind the one at i
abbrev pub next_at : Shape → Stage → List ℕ → ℕ → Stage
next_at s st f i = next_of (pointed? s) st (column_of s (length f - i - 1)) (get_or f i 0)

module _ (s : Shape) (st : Stage) (f : List ℕ) (i : ℕ) (h : i < length f) where
  pub stepped : bad_from s st (drop i f) ≡ pick (wrong? (next_at s st f i)) 0 (suc (bad_from s (next_at s st f i) (drop (i + 1) f)))
  unfolding bad_from
  stepped =
      let e : length (drop (suc i) f) ≡ length f - i - 1 = rw length-drop (omega arith) in
      ap (bad_from s st) (drop-cons f i 0 h) ∙ rw (e, add-one i)

  pub stopped : wrong? (next_at s st f i) ≡ true → bad_from s st (drop i f) ≡ 0
  stopped e = stepped ∙ ap (λ (b : Bool). pick b 0 (suc (bad_from s (next_at s st f i) (drop (i + 1) f)))) e

  pub passed : wrong? (next_at s st f i) ≡ false → i + bad_from s st (drop i f) ≡ i + 1 + bad_from s (next_at s st f i) (drop (i + 1) f)
  passed e =
      let q = stepped ∙ ap (λ (b : Bool). pick b 0 (suc (bad_from s (next_at s st f i) (drop (i + 1) f)))) e in
      omega (arith, q)

-- at the end nothing is left
pub ended : (s : Shape) (st : Stage) (f : List ℕ) (i : ℕ) → i ≡ length f → bad_from s st (drop i f) ≡ 0
unfolding bad_from
ended s st f i e = ap (λ (n : ℕ). bad_from s st (drop n f)) e ∙ ap (bad_from s st) (drop-length f)

-- at the front nothing is passed
pub begun : (s : Shape) (f : List ℕ) → 0 + bad_from s Blanks (drop 0 f) ≡ bad_in s f
unfolding bad_in
begun s f = omega arith
