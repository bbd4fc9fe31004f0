-- A sample of a line that stands there is the one that the rules name: a count (`sample_named`), or two patterns, each the four bytes at its place, high byte
-- first (`complex_named`); its power is that of these patterns (`power_is`), and the complex row has them one after the other (`row_named`).
use Prim.Native.Nat.{ℕ, ◌+◌, ◌-◌, ◌*◌, ◌≤◌, ◌<◌}
use mathlib.Core.Path.{◌≡◌, ap, ap₂, ◌∙◌}
use mathlib.Core.List.{List, ◌++◌}
use mathlib.Core.Bool.{true}
use native.Mathlib.Omega.{arith}
use lib.Ieee.{binary32, to_bits}
use lib.ListN.{length, get_or, drop, length-append, length-drop, get_or-append}
use lib.Seq.{get_or-drop, get_or-append-add}
use borrow.Author.Tests.{lt-ltb, le-ltb}
use Rattle.words.specs.Words.{four_at}
use Rattle.floats.specs.Floats as floats
use Rattle.plan.specs.declared.Plan.{Plan}
use Rattle.std.specs.Prelude.{Ok}
use Rattle.lines.specs.View.{View, sort_seen}
use Rattle.samples.specs.Samples.{floated, on_power, patterned_by, powered_by, sampled_by}
use Rattle.samples.specs.Asked.{pattern_of, sample_of, power_of}
use Rattle.samples.specs.declared.Sample.TheVariants.{Count, Complex}
use Rattle.complex_rows.specs.Parts.{parts, parts_copied_by, parts_row_by, parts_copied, parts_row}
use Rattle.complex_rows.proofs.PartLaws.{length_parts, part_real, part_imaginary}
use Rattle.promises.specs.Shown.{line_record, Stands, data_count, data_pixels, sample}
use Rattle.promises.proofs.LineNamed.{stands_shown, sort_seen_lem}
use Rattle.sample_theorems.specs.Named.{real, imaginary}
use Rattle.sample_theorems.proofs.Pixels.{start, four_there_lem, two_there}

module _ (bs : List ℕ) (k : ℕ) (p : Plan) (t : Stands bs k p) where
  -- the line's data pixels, and how many there are
  abbrev px : List ℕ
  px = data_pixels p (line_record p k bs)

  abbrev count : ℕ
  count = data_count (line_record p k bs)

  -- ---- counts

  module _ (counts : p.sort ≡ 0) (j : ℕ) (h : j < count) where
    -- what stands at sample j's place
    pub count_named : pattern_of bs k j ≡ Ok (Count (sample px j))
    unfolding pattern_of
    count_named =
        ap₂ (λ (v : View) (i : ℕ). patterned_by v i bs j) (stands_shown bs k p t) (sort_seen_lem bs p t.first ∙ counts)
        ∙ (simp (lt-ltb j count h))
        ∙ ap (λ (n : ℕ). Ok (Count n)) (two_there bs k p t counts j h)

    -- and sample j
    pub sample_named : sample_of bs k j ≡ Ok (Count (sample px j))
    unfolding sample_of sampled_by pattern_of
    sample_named = ap floated count_named

  -- ---- complex samples

  module _ (complex : p.sort ≡ 1) where
    seen : sort_seen bs ≡ 1
    seen = sort_seen_lem bs p t.first ∙ complex

    module _ (j : ℕ) (h : j < count) where
      pub real_there : four_at bs (start bs k p t + 8 * j) ≡ real px j
      real_there = four_there_lem bs k p t complex (8 * j) (omega arith)

      pub imaginary_there : four_at bs (start bs k p t + 8 * j + 4) ≡ imaginary px j
      imaginary_there =
          ap (λ (i : ℕ). four_at bs i) (let e : start bs k p t + 8 * j + 4 ≡ start bs k p t + (8 * j + 4) = omega arith in e)
          ∙ four_there_lem bs k p t complex (8 * j + 4) (omega arith)

      -- both halves, bits kept
      pub complex_named : pattern_of bs k j ≡ Ok (Complex (real px j) (imaginary px j))
      unfolding pattern_of
      complex_named =
          ap₂ (λ (v : View) (i : ℕ). patterned_by v i bs j) (stands_shown bs k p t) seen
          ∙ (simp (lt-ltb j count h))
          ∙ ap₂ (λ (a b : ℕ). Ok (Complex a b)) real_there imaginary_there

      -- as floats
      pub floats_named : sample_of bs k j ≡ Ok (Complex (floats.float_of (real px j)) (floats.float_of (imaginary px j)))
      unfolding sample_of sampled_by pattern_of
      floats_named = ap floated complex_named

      -- the power of these two patterns, or 24
      pub power_said : power_of bs k j ≡ on_power (floats.power_of (real px j) (imaginary px j))
      unfolding power_of
      power_said =
          ap₂ (λ (v : View) (i : ℕ). powered_by v i bs j) (stands_shown bs k p t) seen
          ∙ (simp (lt-ltb j count h))
          ∙ ap₂ (λ (a b : ℕ). on_power (floats.power_of a b)) real_there imaginary_there

      -- where both parts and the power are finite: two products and a sum in single precision, each rounded once, bit for bit
      pub power_is : floats.all_finite (floats.float_of (real px j)) (floats.float_of (imaginary px j)) ≡ true
          → power_of bs k j ≡ Ok (to_bits binary32 (floats.squares (floats.float_of (real px j)) (floats.float_of (imaginary px j))))
      unfolding floats.power_of
      power_is f = power_said ∙ (simp f)

    -- ---- the complex row

    module _ (row : List ℕ) (h : 2 * count ≤ length row) where
      copied : parts_copied bs k (length row) ≡ Ok count
      unfolding parts_copied
      copied =
          ap₂ (λ (v : View) (i : ℕ). parts_copied_by v i (length row)) (stands_shown bs k p t) seen ∙ (simp (le-ltb (length row) (2 * count) h))

      row_is : parts_row bs k row ≡ parts bs (start bs k p t) count ++ drop (2 * count) row
      unfolding parts_row
      row_is = ap₂ (λ (v : View) (i : ℕ). parts_row_by v i bs row) (stands_shown bs k p t) seen ∙ (simp (le-ltb (length row) (2 * count) h))

      within : (i : ℕ) → i < 2 * count → get_or (parts_row bs k row) i 0 ≡ get_or (parts bs (start bs k p t) count) i 0
      within i l =
          ap (λ (x : List ℕ). get_or x i 0) row_is
          ∙ get_or-append (parts bs (start bs k p t) count) (drop (2 * count) row) 0 i (let e = length_parts bs (start bs k p t) count in omega arith)

      kept : (i : ℕ) → 2 * count ≤ i → get_or (parts_row bs k row) i 0 ≡ get_or row i 0
      kept i l =
          let xs = parts bs (start bs k p t) count in
          let a : length xs ≡ 2 * count = length_parts bs (start bs k p t) count in
          let e : i ≡ length xs + (i - 2 * count) = omega arith in
          let f : 2 * count + (i - 2 * count) ≡ i = omega arith in
          ap (λ (x : List ℕ). get_or x i 0) row_is
          ∙ ap (λ (n : ℕ). get_or (xs ++ drop (2 * count) row) n 0) e
          ∙ get_or-append-add xs (drop (2 * count) row) (i - 2 * count) 0
          ∙ get_or-drop (2 * count) row (i - 2 * count) 0
          ∙ ap (λ (n : ℕ). get_or row n 0) f

      -- numbers 2j and 2j + 1 are the parts of sample j; later numbers and the row's length stay
      pub row_named : (parts_copied bs k (length row) ≡ Ok count)
          × ((j : ℕ) → j < count → (get_or (parts_row bs k row) (2 * j) 0 ≡ real px j) × (get_or (parts_row bs k row) (2 * j + 1) 0 ≡ imaginary px j))
          × ((i : ℕ) → 2 * count ≤ i → get_or (parts_row bs k row) i 0 ≡ get_or row i 0)
          × (length (parts_row bs k row) ≡ length row)
      row_named = (
        copied,
        (λ j l. (
          within (2 * j) (omega arith) ∙ part_real bs (start bs k p t) count j l ∙ real_there j l,
          within (2 * j + 1) (omega arith) ∙ part_imaginary bs (start bs k p t) count j l ∙ imaginary_there j l,
        )),
        kept,
        ap length row_is ∙ length-append (parts bs (start bs k p t) count) (drop (2 * count) row)
            ∙ (let a = length_parts bs (start bs k p t) count in let b = length-drop (2 * count) row in omega arith),
      )
