-- No two lines' pixels share a byte: each line's d bytes lie inside its own record, for every plan whose data and suffix fit L, and records lie end to end.
use Prim.Native.Nat.{ℕ, suc, ◌+◌, ◌-◌, ◌*◌, ◌≤◌, ◌<◌}
use mathlib.Core.Path.{◌≡◌, sym}
use mathlib.Core.List.{List}
use mathlib.Core.Logic.{◌≢◌, ⊎_elim}
use native.Mathlib.Omega.{arith}
use native.Mathlib.Nat.{mul-le-mul_right, suc-mul, eq-or-lt_of_le}
use lib.Dec.{ltb}
use borrow.Author.Tests.{ltb-true, ltb-false}
use Rattle.words.proofs.Laws.{cases}
use Rattle.plan.specs.declared.Plan.{Plan}
use Rattle.promises.specs.Rules.{sort_of}
use Rattle.promises.specs.Newest.{ImageDescriptor}
use Rattle.promises.specs.Shown.{line_start, line_record, Pixel, WholeLine, Stands, data_count, bytes_of, data_start}
use Rattle.promises.proofs.LineNamed.{line_fits, stands_room}

-- what goes before, the data and the suffix fit L
module _ (ahead : ℕ) (p : Plan) (room : ahead + p.d + p.s ≤ p.l) where
  -- inside its own record
  pub pixel_inside : (k at : ℕ) → Pixel p k at → (line_start p k + ahead ≤ at) × (at + p.s < line_start p k + p.l)
  pixel_inside k at q = let a = q.from in let b = q.to in (omega arith, omega arith)

  apart_before : (i j at : ℕ) → i < j → 1 ≤ i → Pixel p i at → Pixel p j at → ⊥
  apart_before i j at h l a b =
      let x = pixel_inside i at a in
      let y = pixel_inside j at b in
      let m : suc (i - 1) * p.l ≤ (j - 1) * p.l = mul-le-mul_right p.l (omega arith) in
      omega (arith, suc-mul (i - 1) p.l)

  -- the pixel areas of two different lines have no byte in common, whatever a sample's size
  pub areas_apart : (i j at : ℕ) → 1 ≤ i → 1 ≤ j → i ≢ j → Pixel p i at → Pixel p j at → ⊥
  areas_apart i j at a b n x y =
      ⊎_elim (λ h. apart_before i j at (ltb-true i j h) a x y)
      (λ h. ⊎_elim (λ e. n (sym e)) (λ l. apart_before j i at l b y x) (eq-or-lt_of_le (ltb-false i j h))) (cases (ltb i j))

-- for every plan that the rules allow
pub lines_apart : (r : List ℕ) (p : Plan) → ImageDescriptor r p → (i j at : ℕ) → 1 ≤ i → 1 ≤ j → i ≢ j → Pixel p i at → Pixel p j at → ⊥
lines_apart r p d = areas_apart (sort_of p.sort).ahead p d.room

pub lines_inside : (r : List ℕ) (p : Plan) → ImageDescriptor r p → (k at : ℕ) → Pixel p k at
    → (line_start p k + (sort_of p.sort).ahead ≤ at) × (at + p.s < line_start p k + p.l)
lines_inside r p d = pixel_inside (sort_of p.sort).ahead p d.room

-- the data pixels of a line that is whole are among its pixels, under any plan whose pixels fill d
pub line_data : (bs : List ℕ) (k : ℕ) (p : Plan) → p.d ≡ bytes_of p * p.w → p.d + p.s ≤ p.l → WholeLine bs k p → (i : ℕ)
    → i < bytes_of p * data_count (line_record p k bs)
    → Pixel p k (data_start p k (line_record p k bs) + i)
line_data bs k p paired room t i h = let f = line_fits bs k p paired room t in record { from = omega arith; to = omega arith }

-- and so those that are shown of a line
pub data_are_pixels : (bs : List ℕ) (k : ℕ) (p : Plan) → Stands bs k p → (i : ℕ) → i < bytes_of p * data_count (line_record p k bs)
    → Pixel p k (data_start p k (line_record p k bs) + i)
data_are_pixels bs k p t = line_data bs k p t.first.paired (stands_room bs k p t) t.line
