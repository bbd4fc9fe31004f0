-- A line's record as it is due, and what is found in it, test by test: tests that all hold find nothing, and a fine header leaves the body's three tests.
use Prim.Native.Nat.{ℕ, zero, suc, ◌+◌, ◌-◌, ◌*◌, ◌≤◌}
use mathlib.Core.Path.{◌≡◌, ap, ◌∙◌}
use mathlib.Core.List.{List}
use mathlib.Core.Bool.{true}
use native.Mathlib.Omega.{arith}
use native.Mathlib.Nat.{mul-le-mul_right}
use Rattle.words.specs.Tests.{both_of}
use Rattle.words.proofs.Laws.{both_l, both_r}
use Rattle.plan.specs.Plan.{image, run_counts, run_lengths, due_of, line_codes}
use Rattle.plan.specs.declared.Plan.{Plan}
use Rattle.plan.specs.declared.Due.{Due}
use Rattle.plan.specs.declared.Codes.{Codes}
use Rattle.plan.proofs.CodeLaws.{line_due_lem}
use Rattle.std.specs.Prelude.{Ok}
use Rattle.verdicts.specs.Tests.{Verdict, first_fault, all_hold, and_then}
use Rattle.verdicts.proofs.Holding.{all_fine}
use Rattle.headers.specs.Header.{header_tests, header_of}
use Rattle.image.specs.Image.{line_tests}
use Rattle.bodies.specs.Bodies.{body_of}
use Rattle.lines.specs.View.{found_in, Lined}
use Rattle.lines.proofs.InsideLaws.{line_body_lem, parts_found}

pub head_fine : (ordinal : ℕ) (c : Codes) (long : ℕ) (b : List ℕ) → all_hold (header_tests ordinal c long b) ≡ true → header_of ordinal c long b ≡ Ok tt
unfolding header_of
head_fine ordinal c long b e = all_fine (header_tests ordinal c long b) e

module _ (p : Plan) (k : ℕ) (s : Due) (r : List ℕ) (run : s.run ≡ 1) where
  pub body_is : body_of image s.run p k r ≡ first_fault (line_tests p.w k r)
  body_is = ap (λ (i : ℕ). body_of image i p k r) run ∙ line_body_lem p k r

  pub found_fine : both_of (all_hold (header_tests s.ordinal s.codes s.length r)) (all_hold (line_tests p.w k r)) ≡ true → found_in p k s r ≡ Ok tt
  found_fine e =
      parts_found p k s r (head_fine s.ordinal s.codes s.length r (both_l (all_hold (header_tests s.ordinal s.codes s.length r)) _ e))
      (body_is ∙ all_fine (line_tests p.w k r) (both_r (all_hold (header_tests s.ordinal s.codes s.length r)) _ e))

  pub found_body : header_of s.ordinal s.codes s.length r ≡ Ok tt → found_in p k s r ≡ first_fault (line_tests p.w k r)
  unfolding found_in
  found_body e = ap (λ (v : Verdict). and_then v (body_of image s.run p k r)) e ∙ body_is

-- line k, from 1, is due so many lines behind the first record
pub due_is : (p : Plan) (k : ℕ) → 1 ≤ k → k ≤ p.n
    → due_of image p k ≡ record { ordinal = k + 1; run = 1; codes = line_codes p.sort; length = p.l; start = 720 + (k - 1) * p.l }
due_is p zero a b = absurd (omega arith)
due_is p (suc k) a b =
    line_due_lem p k (omega arith)
    ∙ ap (λ (i : ℕ). record { ordinal = suc k + 1; run = 1; codes = line_codes p.sort; length = p.l; start = 720 + i * p.l })
    (let e : k ≡ suc k - 1 = omega arith in e)

-- the lines before it, and the room in each
pub lines_before : (p : Plan) (k : ℕ) → Lined p → k ≤ p.n → (k - 1) * p.l ≤ 999998000001
unfolding run_counts run_lengths
lines_before p k o h =
    let a : p.n * p.l ≤ 999998000001 = o.small.area 0 (omega arith) in
    let m : (k - 1) * p.l ≤ p.n * p.l = let i : k - 1 ≤ p.n = omega arith in mul-le-mul_right p.l i in
    omega arith

pub line_room : (p : Plan) → Lined p → 1 ≤ p.n → 192 ≤ p.l
line_room p o h = let m = o.room h in omega arith
