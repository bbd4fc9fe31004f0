-- Refusals of what is asked of samples (document 02, No. 2): one sample of a line (36), its power (23, 36, 24), a row of complex ones (23, 15); each with
-- what goes before it, in the words of `Rules`, `Shown` and `Refusals`. No test of the code occurs here. Assumes nothing.
use Rattle.std.specs.Prelude.{ℕ, ◌*◌, ◌≤◌, ◌<◌, ◌≡◌, List, false}
use Rattle.words.specs.Answer.{bare_refusal}
use Rattle.words.specs.declared.Refusal.{Refusal}
use Rattle.floats.specs.Floats.{float_of, all_finite}
use Rattle.plan.specs.declared.Plan.{Plan}
use Rattle.promises.specs.Shown.{line_record, Stands, data_count, data_pixels}
use Rattle.refusals.specs.Questions.{ViewRefuses}
use Rattle.sample_theorems.specs.Named.{real, imaginary}

-- sample i of line k, from 0
pub data SampleRefuses (bs : List ℕ) (k i : ℕ) (x : Refusal) : Type 1 where
  -- the line's own first
  view : ViewRefuses bs k x → SampleRefuses bs k i x
  -- 36: the line has no such data pixel
  outside : (p : Plan) → Stands bs k p → data_count (line_record p k bs) ≤ i → x ≡ bare_refusal 36 → SampleRefuses bs k i x

-- a part of sample i, or its power, is an infinity or no number
abbrev pub NotFinite : Plan → ℕ → List ℕ → ℕ → Type 0
NotFinite p k bs i =
    all_finite (float_of (real (data_pixels p (line_record p k bs)) i)) (float_of (imaginary (data_pixels p (line_record p k bs)) i)) ≡ false

-- its power
pub data PowerRefuses (bs : List ℕ) (k i : ℕ) (x : Refusal) : Type 1 where
  view : ViewRefuses bs k x → PowerRefuses bs k i x
  -- 23: the samples are not complex
  sort : (p : Plan) → Stands bs k p → (p.sort ≡ 1 → ⊥) → x ≡ bare_refusal 23 → PowerRefuses bs k i x
  -- then 36
  outside : (p : Plan) → Stands bs k p → p.sort ≡ 1 → data_count (line_record p k bs) ≤ i → x ≡ bare_refusal 36 → PowerRefuses bs k i x
  -- 24, last
  endless : (p : Plan) → Stands bs k p → p.sort ≡ 1 → i < data_count (line_record p k bs) → NotFinite p k bs i → x ≡ bare_refusal 24 → PowerRefuses bs k i x

-- the complex row copy of line k to a row of m numbers
pub data PartsRefuses (bs : List ℕ) (k m : ℕ) (x : Refusal) : Type 1 where
  view : ViewRefuses bs k x → PartsRefuses bs k m x
  -- 23: the samples are not complex
  sort : (p : Plan) → Stands bs k p → (p.sort ≡ 1 → ⊥) → x ≡ bare_refusal 23 → PartsRefuses bs k m x
  -- 15, last: the row is shorter than two numbers a sample
  row : (p : Plan) → Stands bs k p → p.sort ≡ 1 → m < 2 * data_count (line_record p k bs) → x ≡ bare_refusal 15 → PartsRefuses bs k m x
