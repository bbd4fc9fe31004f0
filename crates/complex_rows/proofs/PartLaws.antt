-- The row's start, number by number: one more at a time, two a sample; and what a copy leaves of the row behind them.
use Prim.Native.Nat.{ℕ, zero, suc, ◌+◌, ◌*◌, ◌≤◌, ◌<◌}
use mathlib.Core.Path.{◌≡◌, refl, sym, ap, ap₂, ◌∙◌}
use mathlib.Core.List.{List, ◌∷◌, ◌++◌}
use mathlib.Core.Bool.{false}
use native.Mathlib.Omega.{arith}
use native.Mathlib.Nat.{add-zero}
use lib.Dec.{ltb}
use lib.ListN.{length, get_or, drop}
use Rattle.std.proofs.lemmas.List.{ext_get_or}
use Rattle.words.specs.Tests.{pick}
use Rattle.words.specs.Words.{four_at}
use Rattle.std.specs.Prelude.{Ok}
use Rattle.lines.specs.declared.Shown.{Shown}
use Rattle.samples.specs.Samples.{is_complex, pattern_at, place_in}
use Rattle.samples.proofs.StayLaws.{four_stays}
use Rattle.complex_rows.specs.Parts.{fours, parts, parts_row_by}

-- ---- numbers of four bytes, one more at a time

length_fours : (bs : List ℕ) (at n : ℕ) → length (fours bs at n) ≡ n
unfolding fours
length_fours bs at zero = refl
length_fours bs at (suc n) = ap suc (length_fours bs (at + 4) n)

-- number i of them
four_of : (bs : List ℕ) (at n i : ℕ) → i < n → get_or (fours bs at n) i 0 ≡ four_at bs (at + 4 * i)
unfolding fours
four_of bs at zero i h = absurd (omega arith)
four_of bs at (suc n) zero h = ap (λ (k : ℕ). four_at bs k) (sym (add-zero at))
four_of bs at (suc n) (suc i) h =
    four_of bs (at + 4) n i (omega arith) ∙ ap (λ (k : ℕ). four_at bs k) (let e : at + 4 + 4 * i ≡ at + 4 * suc i = omega arith in e)

-- numbers each of which is that number are the numbers
pub fours_are : (n : ℕ) (bs : List ℕ) (at : ℕ) (row : List ℕ) → length row ≡ n → ((k : ℕ) → k < n → get_or row k 0 ≡ four_at bs (at + 4 * k))
    → row ≡ fours bs at n
fours_are n bs at row long each =
    ext_get_or 0 row (fours bs at n) (long ∙ sym (length_fours bs at n))
    (λ i h. let below : i < n = omega arith in each i below ∙ sym (four_of bs at n i below))

-- ---- two numbers a sample

pub parts_fours : (bs : List ℕ) (at n : ℕ) → fours bs at (2 * n) ≡ parts bs at n
unfolding fours parts
parts_fours bs at zero = refl
parts_fours bs at (suc n) =
    ap (λ (m : ℕ). fours bs at m) (let e : 2 * suc n ≡ suc (suc (2 * n)) = omega arith in e)
    ∙ ap (λ (i : ℕ). four_at bs at ∷ four_at bs (at + 4) ∷ fours bs i (2 * n)) (let e : at + 4 + 4 ≡ at + 8 = omega arith in e)
    ∙ ap (λ (l : List ℕ). four_at bs at ∷ four_at bs (at + 4) ∷ l) (parts_fours bs (at + 8) n)

pub length_parts : (bs : List ℕ) (at n : ℕ) → length (parts bs at n) ≡ 2 * n
length_parts bs at n = ap length (sym (parts_fours bs at n)) ∙ length_fours bs at (2 * n)

-- the row's numbers 2i and 2i + 1 are the patterns that the sample reader gives of sample i
pub part_real : (bs : List ℕ) (at n i : ℕ) → i < n → get_or (parts bs at n) (2 * i) 0 ≡ (pattern_at bs (place_in at 1 i)).re
unfolding parts
part_real bs at zero i h = absurd (omega arith)
part_real bs at (suc n) zero h = ap (λ (k : ℕ). four_at bs k) (sym (add-zero at))
part_real bs at (suc n) (suc i) h =
    ap (λ (k : ℕ). get_or (four_at bs at ∷ four_at bs (at + 4) ∷ parts bs (at + 8) n) k 0) (let e : 2 * suc i ≡ suc (suc (2 * i)) = omega arith in e)
    ∙ part_real bs (at + 8) n i (omega arith)
    ∙ ap (λ (k : ℕ). four_at bs k) (let e : at + 8 + 8 * i ≡ at + 8 * suc i = omega arith in e)

pub part_imaginary : (bs : List ℕ) (at n i : ℕ) → i < n → get_or (parts bs at n) (2 * i + 1) 0 ≡ (pattern_at bs (place_in at 1 i)).im
unfolding parts
part_imaginary bs at zero i h = absurd (omega arith)
part_imaginary bs at (suc n) zero h = ap (λ (k : ℕ). four_at bs (k + 4)) (sym (add-zero at))
part_imaginary bs at (suc n) (suc i) h =
    ap (λ (k : ℕ). get_or (four_at bs at ∷ four_at bs (at + 4) ∷ parts bs (at + 8) n) k 0) (let e : 2 * suc i + 1 ≡ suc (suc (2 * i + 1)) = omega arith in e)
    ∙ part_imaginary bs (at + 8) n i (omega arith)
    ∙ ap (λ (k : ℕ). four_at bs (k + 4)) (let e : at + 8 + 8 * i ≡ at + 8 * suc i = omega arith in e)

-- further bytes change no part of samples that lie within the bytes, and so no row
parts_stay : (bs more : List ℕ) (at n : ℕ) → at + 8 * n ≤ length bs → parts (bs ++ more) at n ≡ parts bs at n
unfolding parts
parts_stay bs more at zero h = refl
parts_stay bs more at (suc n) h =
    ap₂ (λ (a b : ℕ). a ∷ b ∷ parts (bs ++ more) (at + 8) n) (four_stays bs more at (omega arith)) (four_stays bs more (at + 4) (omega arith))
    ∙ ap (λ (l : List ℕ). four_at bs at ∷ four_at bs (at + 4) ∷ l) (parts_stay bs more (at + 8) n (omega arith))

pub row_stays : (bs more row : List ℕ) (x : Shown) (sort : ℕ) → x.start + 8 * x.count ≤ length bs
    → parts_row_by (Ok x) sort (bs ++ more) row ≡ parts_row_by (Ok x) sort bs row
row_stays bs more row x sort h =
    ap (λ (l : List ℕ). pick (is_complex sort) (pick (ltb (length row) (2 * x.count)) row (l ++ drop (2 * x.count) row)) row)
    (parts_stay bs more x.start x.count h)

-- counts leave the row as it was, whatever the bytes
pub row_counts : (bs row : List ℕ) (x : Shown) (sort : ℕ) → is_complex sort ≡ false → parts_row_by (Ok x) sort bs row ≡ row
row_counts bs row x sort k = simp k
