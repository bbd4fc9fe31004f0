-- The number fields as the loop reads them, the ranges of a descriptor whose number fields have no fault, and the descriptor step by step.
use Prim.Native.Nat.{ℕ, ◌+◌, ◌*◌, ◌≤◌, ◌<◌}
use mathlib.Core.Path.{◌≡◌, sym, ap, ◌∙◌}
use mathlib.Core.List.{List, ◌++◌, map}
use mathlib.Core.Bool.{Bool, true, false}
use native.Mathlib.Omega.{arith}
use native.Mathlib.Nat.{mul-le-mul}
use lib.ListN.{get_or}
use lib.Seq.{slice}
use Rattle.std.specs.Prelude.{Ok, Err}
use Rattle.words.specs.Tests.{pick}
use Rattle.words.specs.Words.{place_of}
use Rattle.words.specs.declared.Refusal.{Refusal}
use Rattle.plan.specs.Tables.{sort_of, last_sort}
use Rattle.plan.proofs.CodeLaws.{sort_modest}
use Rattle.decimal.specs.declared.Form.TheVariants.{I4, I6, I8}
use Rattle.decimal.specs.declared.Number.{Number as Value}
use Rattle.verdicts.specs.Tests.{Test, first_fault, each, text_at, whole_of}
use Rattle.verdicts.specs.Numbers.{number, number_at, row_tests, numbers_tests}
use Rattle.image.specs.Image.{sort_in, image_numbers, image_row, number_field, row_number, numbers_of, image_texts, agree_tests, agreements, image_tests}
use Rattle.image.specs.Image.{described_in, described_of}
use Rattle.verdicts.proofs.Holding.{Holds, fine_holds, row_holds}
use Rattle.verdicts.proofs.TestLaws.{found, passed, row_found, row_passed, named_fault, named_fine, fault_found, fine_found}
use Rattle.verdicts.proofs.RowLaws as rows

-- the text names one of the two sorts
pub sort_in_lem : (r : List ℕ) → sort_in r ≤ last_sort
sort_in_lem r = go (text_at r (place_of 429) (sort_of 1).text)
  where
    go : (b : Bool) → pick b 1 0 ≤ last_sort
    go true = omega arith
    go false = omega arith

-- the numbers that the agreements and the plan use
pub record Bounded (r : List ℕ) : Type 0 where
  pub n : (1 ≤ number_at r 181 I6) × (number_at r 181 I6 ≤ 999999)
  pub l : (1 ≤ number_at r 187 I6) × (number_at r 187 I6 ≤ 999999)
  pub w : (1 ≤ number_at r 249 I8) × (number_at r 249 I8 ≤ 99999999)
  pub d : (1 ≤ number_at r 281 I8) × (number_at r 281 I8 ≤ 99999999)
  pub s : (0 ≤ number_at r 289 I4) × (number_at r 289 I4 ≤ 9999)

pub bounded : (sort : ℕ) (r : List ℕ) → Holds (numbers_tests r (image_numbers sort)) → Bounded r
bounded sort r h =
    let in_row = row_holds r (image_numbers sort) h in
    record { n = in_row 0 (omega arith); l = in_row 1 (omega arith); w = in_row 5 (omega arith); d = in_row 6 (omega arith); s = in_row 7 (omega arith) }

-- a group for each pixel is small, whatever the sort
pub groups_fit : (sort w : ℕ) → w ≤ 99999999 → (sort_of sort).group * w ≤ 799999992
groups_fit sort w h = omega (arith, mul-le-mul (sort_modest sort).0 h)

pub ruleset modest = (groups_fit, sort_modest)

-- ---- the number fields, as the loop reads them

-- what is left of them
abbrev pub left : ℕ → List ℕ → ℕ → List Test
left sort r i = each (row_tests r) (slice i 8 (image_numbers sort))

module _ (sort : ℕ) (r : List ℕ) (i : ℕ) where
  -- a field that is refused is the first fault of what is left
  pub row_fault : i < 8 → {x : Refusal} → number_field r (image_row sort i) ≡ Err x → first_fault (left sort r i) ≡ Err x
  unfolding image_row
  row_fault h q = row_found (row_tests r) (image_numbers sort) (number 0 I4 0 0) i 8 h (omega arith) (rows.row_found r (image_row sort i) q)

  -- a number passes, and is the row's
  module _ {m : Value} (q : number_field r (image_row sort i) ≡ Ok m) where
    pub row_value : whole_of m.units ≡ row_number r (image_row sort i)
    row_value = rows.value_is r (image_row sort i) q

    pub row_next : i < 8 → first_fault (left sort r i) ≡ first_fault (left sort r (i + 1))
    unfolding image_row
    row_next h = row_passed (row_tests r) (image_numbers sort) (number 0 I4 0 0) i 8 h (omega arith) (rows.row_passed r (image_row sort i) q)

-- ---- the descriptor, step by step

module _ (r : List ℕ) where
  -- the number fields and the agreements
  abbrev numbers : List Test
  numbers = numbers_tests r (image_numbers (sort_in r))

  pub text_fault : {x : Refusal} → first_fault (image_texts r) ≡ Err x → Err x ≡ described_of r
  unfolding described_of image_tests
  text_fault q = named_fault _ (found (image_texts r) (numbers ++ agreements r) q)

  -- what comes behind the texts, and behind the number fields
  module _ (fine : first_fault (image_texts r) ≡ Ok tt) where
    behind_texts : first_fault (image_tests r) ≡ first_fault (numbers ++ agreements r)
    unfolding image_tests
    behind_texts = passed (image_texts r) (numbers ++ agreements r) fine

    pub number_fault : {x : Refusal} → numbers_of (sort_in r) r ≡ Err x → Err x ≡ described_of r
    unfolding described_of numbers_of
    number_fault q = named_fault _ (behind_texts ∙ found numbers (agreements r) (fault_found _ (first_fault numbers) q))

    module _ {a : List ℕ} (q : numbers_of (sort_in r) r ≡ Ok a) where
      was : (first_fault numbers ≡ Ok tt) × (a ≡ map (row_number r) (image_numbers (sort_in r)))
      unfolding numbers_of
      was = fine_found _ (first_fault numbers) q

      pub values_in : (get_or a 5 0 ≤ 99999999) × (get_or a 6 0 ≤ 99999999) × (get_or a 7 0 ≤ 9999)
      values_in =
          let b = bounded (sort_in r) r (fine_holds numbers was.0) in
          rw was.1 (b.w.1, b.d.1, b.s.1)

      -- the agreements of the values read are those of the descriptor
      abbrev agreeing : List ℕ → List Test
      agreeing a = agree_tests (sort_in r) (get_or a 0 0) (get_or a 1 0) (get_or a 4 0) (get_or a 5 0) (get_or a 6 0) (get_or a 7 0)

      behind_numbers : first_fault (image_tests r) ≡ first_fault (agreeing a)
      behind_numbers = behind_texts ∙ passed numbers (agreements r) was.0 ∙ sym (ap (λ (a : List ℕ). first_fault (agreeing a)) was.1)

      pub agree_fault : {x : Refusal} → first_fault (agreeing a) ≡ Err x → Err x ≡ described_of r
      unfolding described_of
      agree_fault k = named_fault _ (behind_numbers ∙ k)

      pub all_named : first_fault (agreeing a) ≡ Ok tt → Ok (record {
        n = get_or a 0 0;
        l = get_or a 1 0;
        w = get_or a 5 0;
        d = get_or a 6 0;
        s = get_or a 7 0;
        sort = sort_in r;
      }) ≡ described_of r
      unfolding described_of
      all_named k =
          ap (λ (a : List ℕ). Ok (record {
            n = get_or a 0 0;
            l = get_or a 1 0;
            w = get_or a 5 0;
            d = get_or a 6 0;
            s = get_or a 7 0;
            sort = sort_in r;
          })) was.1
          ∙ named_fine (described_in r) (behind_numbers ∙ k)

pub ruleset steps = (text_fault, number_fault, values_in, agree_fault, all_named)
