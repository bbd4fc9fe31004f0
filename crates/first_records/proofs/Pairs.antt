-- Pairs that are written one behind the other: how long they are, where the columns of pair i stand, by induction over the pairs, and that a pair of its
-- row's ranges is written as the rules ask.
use Prim.Native.Nat.{ℕ, zero, suc, ◌+◌, ◌*◌, ◌^◌, ◌≤◌, ◌<◌}
use mathlib.Core.Path.{◌≡◌, refl, sym, ◌∙◌, subst}
use mathlib.Core.List.{List, [], ◌∷◌, ◌++◌}
use native.Mathlib.Omega.{arith}
use native.Mathlib.Nat.{mul-suc, mul-zero}
use lib.ListN.{length, get_or, length-append}
use Rattle.words.specs.Words.{place_of}
use Rattle.decimal.specs.Forms.{width_of, shape_of}
use Rattle.decimal.specs.declared.Form.{Form}
use Rattle.decimal.specs.declared.Form.TheVariants.{I6}
use Rattle.decimal.specs.declared.Shape.TheVariants.{Whole}
use Rattle.fields.specs.Field.{field_bytes}
use Rattle.promises.specs.Bytes.{Bytes}
use Rattle.promises.specs.Rules.{concat, none, some}
use Rattle.promises.specs.Newest.{Pair}
use Rattle.promises.proofs.Made.{Each, bytes_concat}
use Rattle.first_records.specs.Allowed.{Row}
use Rattle.first_records.specs.FirstRecord.{columns, pairs_written}
use Rattle.first_records.proofs.Columns.{spelt, numbered, columns_bytes}
use Rattle.first_records.proofs.Stands.{Stands, here, behind, within, read}

pub pairs_long : (w : ℕ) (cs ls : List ℕ) → length cs ≡ length ls → length (concat (pairs_written w cs ls)) ≡ (6 + w) * length cs
unfolding pairs_written
pairs_long w [] ls e = sym (mul-zero (6 + w))
pairs_long w (c ∷ cs) [] e = absurd (omega arith)
pairs_long w (c ∷ cs) (l ∷ ls) e =
    omega (
      arith,
      length-append (columns 6 c) (columns w l ++ concat (pairs_written w cs ls)),
      length-append (columns w l) (concat (pairs_written w cs ls)),
      (spelt 6 c).size,
      (spelt w l).size,
      pairs_long w cs ls (omega arith),
      mul-suc (6 + w) (length cs),
    )

pairs_each : (w : ℕ) (cs ls : List ℕ) → Each (pairs_written w cs ls)
unfolding pairs_written
pairs_each w [] ls = tt
pairs_each w (c ∷ cs) [] = tt
pairs_each w (c ∷ cs) (l ∷ ls) = (columns_bytes 6 c, (columns_bytes w l, pairs_each w cs ls))

pub pairs_bytes : (w : ℕ) (cs ls : List ℕ) → Bytes (concat (pairs_written w cs ls))
pairs_bytes w cs ls = bytes_concat (pairs_written w cs ls) (pairs_each w cs ls)

-- where the count and the length of pair i stand
record Placed (w : ℕ) (cs ls : List ℕ) (i : ℕ) : Type 0 where
  count : Stands (columns 6 (get_or cs i 0)) ((6 + w) * i) (concat (pairs_written w cs ls))
  long : Stands (columns w (get_or ls i 0)) ((6 + w) * i + 6) (concat (pairs_written w cs ls))

pair_placed : (w : ℕ) (cs ls : List ℕ) (i : ℕ) → length cs ≡ length ls → i < length cs → Placed w cs ls i
unfolding pairs_written
pair_placed w [] ls i e h = absurd (omega arith)
pair_placed w (c ∷ cs) [] i e h = absurd (omega arith)
pair_placed w (c ∷ cs) (l ∷ ls) zero e h =
    let rest = concat (pairs_written w cs ls) in
    record {
      count = here (columns 6 c) (columns w l ++ rest) ((6 + w) * 0) (mul-zero (6 + w));
      long = behind (columns 6 c) _ (omega (arith, mul-zero (6 + w), (spelt 6 c).size)) (here (columns w l) rest 0 refl);
    }
pair_placed w (c ∷ cs) (l ∷ ls) (suc i) e h =
    let r = pair_placed w cs ls i (omega arith) (omega arith) in
    let next : (x : List ℕ) (m n : ℕ) → n ≡ 6 + w + m → Stands x m (concat (pairs_written w cs ls))
    → Stands x n (columns 6 c ++ (columns w l ++ concat (pairs_written w cs ls))) =
    λ x m n q s. behind (columns 6 c) n (omega (arith, (spelt 6 c).size, (spelt w l).size)) (behind (columns w l) (length (columns w l) + m) refl s) in
    record {
      count = next _ _ _ (omega (arith, mul-suc (6 + w) i)) r.count;
      long = next _ _ _ (omega (arith, mul-suc (6 + w) i)) r.long;
    }

-- ---- a pair as the rules ask

place_on : (byte m : ℕ) → 1 ≤ byte → place_of (byte + m) ≡ place_of byte + m
unfolding place_of
place_on byte m h = omega arith

module _ (r : List ℕ) (byte : ℕ) (k : Form) (plain : shape_of k ≡ Whole) (wide : 1 ≤ width_of k) (least most shortest longest : ℕ) (few : most < 10 ^ 6)
    (short : longest < 10 ^ width_of k) where
  pair_ruled : (c l : ℕ) → field_bytes r (place_of byte) I6 ≡ columns 6 c → field_bytes r (place_of (byte + 6)) k ≡ columns (width_of k) l
      → Row least most shortest longest c l → Pair r byte k least most shortest longest c l
  pair_ruled zero l e f a =
      subst (λ (x : ℕ). Pair r byte k least most shortest longest 0 x) (sym (a.none refl))
      (none (numbered r byte I6 refl (omega arith) least most 0 few e a.counted))
  pair_ruled (suc c) l e f a =
      some (numbered r byte I6 refl (omega arith) least most (suc c) few e a.counted)
      (numbered r (byte + 6) k plain wide shortest longest l short f (a.some (omega arith)))

-- pair i of those that stand from that byte on
module _ (r : List ℕ) (from : ℕ) (k : Form) (plain : shape_of k ≡ Whole) (wide : 1 ≤ width_of k) (one : 1 ≤ from) (cs ls : List ℕ)
    (same : length cs ≡ length ls) (stands : Stands (concat (pairs_written (width_of k) cs ls)) (place_of from) r) where
  pub pair_written : (least most shortest longest : ℕ) → most < 10 ^ 6 → longest < 10 ^ width_of k → (i : ℕ) → i < length cs
      → Row least most shortest longest (get_or cs i 0) (get_or ls i 0)
      → Pair r (from + (6 + width_of k) * i) k least most shortest longest (get_or cs i 0) (get_or ls i 0)
  pair_written least most shortest longest few short i h a =
      let w = width_of k in
      let byte = from + (6 + w) * i in
      let at = pair_placed w cs ls i same h in
      pair_ruled r byte k plain wide least most shortest longest few short (get_or cs i 0) (get_or ls i 0)
      (read 6 (spelt 6 (get_or cs i 0)).size (within (place_of byte) (place_on from ((6 + w) * i) one) at.count stands))
      (read w (spelt w (get_or ls i 0)).size
      (within (place_of (byte + 6)) (place_on byte 6 (omega arith) ∙ omega (arith, place_on from ((6 + w) * i) one)) at.long stands)) a
