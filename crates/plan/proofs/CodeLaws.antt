-- What the definitions of codes and lengths say in each of their cases, by computing their tests.
use Prim.Native.Nat.{ℕ, zero, suc, ◌+◌, ◌*◌, ◌≤◌, ◌<◌, min}
use mathlib.Core.Path.{◌≡◌, refl, sym, ap, ◌∙◌}
use mathlib.Core.Logic.{⊎_elim}
use native.Mathlib.Omega.{arith}
use lib.ListN.{length, get_or-eq_default}
use borrow.Author.Tests.{eq-eqb, ne_eqb, eqb-true, eqb-false, lt-ltb}
use Rattle.plan.specs.Tables.{codes, others, other_codes, sort_of, last_sort}
use mathlib.Core.Bool.{Bool, true, false}
use lib.Dec.{eqb}
use Rattle.words.specs.Tests.{pick}
use Rattle.words.proofs.Laws.{cases}
use Rattle.plan.specs.Plan.{volume, leader, image, line_codes, codes_of, first_length, run_counts, run_lengths, sum_of, total_of, spot_from}
use Rattle.plan.specs.Plan.{spot_of, due_of}
use Rattle.plan.specs.declared.Plan.{Plan}
use Rattle.plan.specs.declared.Spot.{Spot}

pub other_none : (i : ℕ) → 6 ≤ i → other_codes i ≡ codes 0 0 0 0
unfolding other_codes
other_none i h = get_or-eq_default others (codes 0 0 0 0) h

-- whatever stands behind the six is none
pub other_min : (run i : ℕ) → i ≡ min run 3 → other_codes (3 + i) ≡ other_codes (3 + run)
other_min run i e =
    ⊎_elim (λ z. ap other_codes (let h = eqb-true i run z in omega (arith, h)))
    (λ z. let n = eqb-false i run z in other_none (3 + i) (omega arith) ∙ sym (other_none (3 + run) (omega arith)))
    (cases (eqb i run))

-- no sort has more than eight bytes a group, nor asks for more than 412 ahead of the pixels
pub sort_modest : (i : ℕ) → ((sort_of i).group ≤ 8) × ((sort_of i).ahead ≤ 412)
unfolding sort_of
sort_modest zero = (omega arith, omega arith)
sort_modest (suc zero) = (omega arith, omega arith)
sort_modest (suc (suc i)) = (omega arith, omega arith)

-- the two sorts have a line's numbers ahead of their pixels
pub sort_ahead : (i : ℕ) → i ≤ last_sort → 192 ≤ (sort_of i).ahead
unfolding sort_of
sort_ahead zero h = omega arith
sort_ahead (suc zero) h = omega arith
sort_ahead (suc (suc i)) h = absurd (omega arith)

-- a sort's code is a byte
pub sort_code : (i : ℕ) → (sort_of i).code ≤ 255
unfolding sort_of
sort_code zero = omega arith
sort_code (suc zero) = omega arith
sort_code (suc (suc i)) = omega arith

-- every sort's text has four bytes
pub sort_text : (i : ℕ) → length (sort_of i).text ≡ 4
unfolding sort_of
sort_text zero = refl
sort_text (suc zero) = refl
sort_text (suc (suc i)) = refl

module _ (kind : ℕ) (p : Plan) where
  pub codes_volume : (run : ℕ) → (run ≡ 0 → ⊥) → kind ≡ volume → codes_of kind p run ≡ other_codes (3 + run)
  unfolding codes_of
  codes_volume zero n e = absurd (n refl)
  codes_volume (suc i) n e =
      let d : 3 + suc i ≡ 4 + i = omega arith in rw (ne_eqb kind leader (omega arith), eq-eqb kind volume e, d)

module _ (kind : ℕ) where
  first_cases : (b : Bool) → pick b 360 720 ≤ 720
  first_cases true = omega arith
  first_cases false = omega arith

  pub first_bound : first_length kind ≤ 720
  unfolding first_length
  first_bound = first_cases (eqb kind volume)

  module _ (p : Plan) where
    pub spot_first : (k : ℕ) → k ≡ 0 → spot_of kind p k ≡ record { run = 0; length = first_length kind; start = 0 }
    unfolding spot_of
    spot_first zero e = refl
    spot_first (suc k) e = absurd (omega arith)

-- line k's record: the run of lines, L bytes, behind the first record and the lines before it
pub line_spot : (p : Plan) (k : ℕ) → k < p.n → spot_of image p (suc k) ≡ record { run = 1; length = p.l; start = 720 + k * p.l }
unfolding spot_of spot_from run_counts run_lengths first_length
line_spot p k h = simp (lt-ltb _ _ h)

-- line k's record as it is due
pub line_due_lem : (p : Plan) (k : ℕ) → k < p.n
    → due_of image p (suc k) ≡ record { ordinal = suc k + 1; run = 1; codes = line_codes p.sort; length = p.l; start = 720 + k * p.l }
unfolding codes_of
line_due_lem p k h =
    ap (λ (s : Spot). record { ordinal = suc k + 1; run = s.run; codes = codes_of image p s.run; length = s.length; start = s.start }) (line_spot p k h)

-- an image's records: the first, and its lines
pub image_total : (p : Plan) → total_of image p ≡ suc p.n
unfolding total_of sum_of run_counts
image_total p = omega arith
