-- The bytes of a line's data pixels are those of the file from the line's data start on, so a number of them is read there.
use Prim.Native.Nat.{ℕ, ◌+◌, ◌*◌, ◌≤◌, ◌<◌}
use mathlib.Core.Path.{◌≡◌, sym, ap, ◌∙◌}
use mathlib.Core.List.{List}
use native.Mathlib.Omega.{arith}
use lib.ListN.{take, drop}
use lib.Seq.{get_or-take, get_or-drop}
use Rattle.words.specs.Words.{byte_at, two_at, four_at}
use Rattle.words.proofs.Laws.{four_bytes}
use Rattle.plan.specs.declared.Plan.{Plan}
use Rattle.promises.specs.Rules.{sort_of}
use Rattle.promises.specs.Shown.{line_record, Stands, data_count, bytes_of, data_start, data_pixels, sample}
use Rattle.promises.proofs.LineNamed.{stands_room, whole_pixels}
use Rattle.sample_theorems.specs.Named.{pattern}

-- a byte of a part is the file's byte there
part_byte : (bs : List ℕ) (start n i : ℕ) → i < n → byte_at (take n (drop start bs)) i ≡ byte_at bs (start + i)
part_byte bs start n i h = get_or-take n (drop start bs) i 0 h ∙ get_or-drop start bs i 0

part_four : (bs : List ℕ) (start n i : ℕ) → i + 4 ≤ n → four_at bs (start + i) ≡ pattern (take n (drop start bs)) i
part_four bs start n i h =
    let a : start + i + 1 ≡ start + (i + 1) = omega arith in
    let b : start + i + 2 ≡ start + (i + 2) = omega arith in
    let c : start + i + 3 ≡ start + (i + 3) = omega arith in
    let w = part_byte bs start n i (omega arith) in
    let x = part_byte bs start n (i + 1) (omega arith) ∙ ap (λ (j : ℕ). byte_at bs j) (sym a) in
    let y = part_byte bs start n (i + 2) (omega arith) ∙ ap (λ (j : ℕ). byte_at bs j) (sym b) in
    let z = part_byte bs start n (i + 3) (omega arith) ∙ ap (λ (j : ℕ). byte_at bs j) (sym c) in
    sym (four_bytes bs (start + i)) ∙ (omega (arith, w, x, y, z))

part_two : (bs : List ℕ) (start n j : ℕ) → 2 * j + 2 ≤ n → two_at bs (start + 2 * j) ≡ sample (take n (drop start bs)) j
unfolding two_at
part_two bs start n j h =
    let a : start + 2 * j + 1 ≡ start + (2 * j + 1) = omega arith in
    let x = part_byte bs start n (2 * j) (omega arith) in
    let y = part_byte bs start n (2 * j + 1) (omega arith) ∙ ap (λ (i : ℕ). byte_at bs i) (sym a) in
    omega (arith, x, y)

module _ (bs : List ℕ) (k : ℕ) (p : Plan) (t : Stands bs k p) where
  -- where the line's data pixels start in the file
  abbrev pub start : ℕ
  start = data_start p k (line_record p k bs)

  pixels_are : (g : ℕ) → bytes_of p ≡ g → take (g * data_count (line_record p k bs)) (drop start bs) ≡ data_pixels p (line_record p k bs)
  pixels_are g e =
      ap (λ (i : ℕ). take (i * data_count (line_record p k bs)) (drop start bs)) (sym e)
      ∙ whole_pixels bs k p t.first.paired (stands_room bs k p t) t.line

  -- four bytes of complex pixels, two of counts
  pub four_there_lem : p.sort ≡ 1 → (i : ℕ) → i + 4 ≤ 8 * data_count (line_record p k bs) →
      four_at bs (start + i) ≡ pattern (data_pixels p (line_record p k bs)) i
  four_there_lem s i h =
      part_four bs start (8 * data_count (line_record p k bs)) i h
      ∙ ap (λ (px : List ℕ). pattern px i) (pixels_are 8 (ap (λ (j : ℕ). (sort_of j).group) s))

  pub two_there : p.sort ≡ 0 → (j : ℕ) → j < data_count (line_record p k bs) → two_at bs (start + 2 * j) ≡ sample (data_pixels p (line_record p k bs)) j
  two_there s j h =
      part_two bs start (2 * data_count (line_record p k bs)) j (omega arith)
      ∙ ap (λ (px : List ℕ). sample px j) (pixels_are 2 (ap (λ (i : ℕ). (sort_of i).group) s))
