-- Lines that hold what they must, one after the other: the code's count of them by its loop's turns, and that each line counted is fine; for what the code
-- hands on as `&bytes[at..]` is what lies behind `at`.
use Prim.Native.Nat.{ℕ, zero, suc, ◌+◌, ◌-◌, ◌*◌, ◌≤◌, ◌<◌}
use mathlib.Core.Path.{◌≡◌, refl, sym, ap, ◌∙◌, subst}
use mathlib.Core.List.{List}
use mathlib.Core.Bool.{Bool, true, false, false≢true}
use mathlib.Core.Logic.{◌⊎◌, inl, inr, ⊎_elim}
use native.Mathlib.Omega.{arith}
use native.Mathlib.Nat.{zero-mul, suc-mul}
use lib.ListN.{length, take, drop, length-drop}
use lib.Seq.{drop-drop}
use Rattle.std.specs.Prelude.{Ok}
use lib.Dec.{ltb, eqb}
use borrow.Author.Tests.{lt-ltb, le-ltb, ltb-true, ltb-false, eq-eqb, eqb-true, eqb-false}
use Rattle.words.specs.Tests.{both_of}
use Rattle.words.specs.Words.{byte_at, four_at}
use Rattle.words.proofs.Laws.{cases, both_l, both_r, both_make, four_bytes}
use Rattle.decimal.proofs.Laws.{last_part}
use Rattle.plan.specs.Tables.{sort_of}
use Rattle.plan.specs.Plan.{line_codes}
use Rattle.plan.proofs.CodeLaws.{sort_code}
use Rattle.verdicts.specs.Tests.{first_fault, all_hold}
use Rattle.verdicts.proofs.Holding.{all_fine, all_three}
use Rattle.image.specs.Image.{line_tests}
use Rattle.headers.specs.Header.{codes_are, header_tests, header_of}
use Rattle.ahead.specs.Lines.{codes_number, line_fine, lines_fine}

-- what the code hands on as `&bytes[at..]`
abbrev pub rest : List ℕ → ℕ → List ℕ
rest b at = take (length b - at) (drop at b)

pub rest_is : (b : List ℕ) (at : ℕ) → rest b at ≡ drop at b
rest_is b at = last_part b at

pub rest_room : (b : List ℕ) (at x : ℕ) → at ≤ length b → x ≤ length (rest b at) → at + x ≤ length b
rest_room b at x h r = omega (arith, ap length (rest_is b at), length-drop at b)

-- ---- a line's codes as one number

-- of bytes, the number is the same exactly where the four codes are
pub codes_held : (b : List ℕ) (sort : ℕ) → byte_at b 4 < 256 → byte_at b 5 < 256 → byte_at b 6 < 256 → byte_at b 7 < 256
    → eqb (four_at b 4) (codes_number sort) ≡ codes_are b (line_codes sort)
unfolding codes_are
codes_held b sort h₄ h₅ h₆ h₇ = go (eqb (four_at b 4) (codes_number sort)) refl
  where
    code : ℕ
    code = (sort_of sort).code

    coded : Bool
    coded = both_of (both_of (eqb (byte_at b 4) 50) (eqb (byte_at b 5) code)) (both_of (eqb (byte_at b 6) 18) (eqb (byte_at b 7) 20))

    alike : (t : Bool) → coded ≡ t → eqb (four_at b 4) (codes_number sort) ≡ false → false ≡ t
    alike false q e = refl
    alike true q e =
        let x = both_l (both_of (eqb (byte_at b 4) 50) (eqb (byte_at b 5) code)) _ q in
        let y = both_r (both_of (eqb (byte_at b 4) 50) (eqb (byte_at b 5) code)) _ q in
        let a = eqb-true (byte_at b 4) 50 (both_l (eqb (byte_at b 4) 50) _ x) in
        let c = eqb-true (byte_at b 5) code (both_r (eqb (byte_at b 4) 50) _ x) in
        let d = eqb-true (byte_at b 6) 18 (both_l (eqb (byte_at b 6) 18) _ y) in
        let f = eqb-true (byte_at b 7) 20 (both_r (eqb (byte_at b 6) 18) _ y) in
        absurd (eqb-false (four_at b 4) (codes_number sort) e (omega (arith, four_bytes b 4, a, c, d, f)))

    go : (t : Bool) → eqb (four_at b 4) (codes_number sort) ≡ t → t ≡ coded
    go true e =
        let n = eqb-true (four_at b 4) (codes_number sort) e in
        let m = four_bytes b 4 in
        let k = sort_code sort in
        sym (both_make _ _
        (both_make _ _ (eq-eqb (byte_at b 4) 50 (omega (arith, n, m, k, h₄, h₅, h₆, h₇))) (eq-eqb (byte_at b 5) code (omega (arith, n, m, k, h₄, h₅, h₆, h₇))))
        (both_make _ _ (eq-eqb (byte_at b 6) 18 (omega (arith, n, m, k, h₄, h₅, h₆, h₇))) (eq-eqb (byte_at b 7) 20 (omega (arith, n, m, k, h₄, h₅, h₆, h₇)))))
    go false e = alike coded refl e

-- a header's tests, with the codes as one number
pub header_held : (b : List ℕ) (sort n l : ℕ) → ((i : ℕ) → byte_at b i < 256)
    → both_of (eqb (four_at b 0) n) (both_of (eqb (four_at b 4) (codes_number sort)) (eqb (four_at b 8) l)) ≡ all_hold (header_tests n (line_codes sort) l b)
unfolding header_tests
header_held b sort n l h =
    ap (λ (t : Bool). both_of (eqb (four_at b 0) n) (both_of t (eqb (four_at b 8) l))) (codes_held b sort (h 4) (h 5) (h 6) (h 7))
    ∙ all_three _ _ _

-- ---- line k's record begins these bytes, is whole, and holds what it must

pub record LineFine (sort w l k : ℕ) (b : List ℕ) : Type 0 where
  pub whole : l ≤ length b
  pub head : header_of (k + 1) (line_codes sort) l b ≡ Ok tt
  pub body : first_fault (line_tests w k (take l b)) ≡ Ok tt

-- so do the c lines from line k on, end to end
abbrev pub LinesFine : ℕ → ℕ → ℕ → ℕ → ℕ → List ℕ → Type 0
LinesFine sort w l k c b = (i : ℕ) → i < c → LineFine sort w l (k + i) (drop (i * l) b)

-- the test of a line, by its cases
module _ (sort w l k : ℕ) (b : List ℕ) where
  pub not_whole : length b < l → false ≡ line_fine sort w l k b
  unfolding line_fine
  not_whole h = rw (lt-ltb (length b) l h)

  pub no_room : l ≤ length b → l < 32 → false ≡ line_fine sort w l k b
  unfolding line_fine
  no_room h n = rw (le-ltb (length b) l h, lt-ltb l 32 n)

  pub tested : l ≤ length b → 32 ≤ l →
      both_of (all_hold (header_tests (k + 1) (line_codes sort) l b)) (all_hold (line_tests w k (take l b))) ≡ line_fine sort w l k b
  unfolding line_fine
  tested h n = rw (le-ltb (length b) l h, le-ltb l 32 n)

  pub line_fine_lem : line_fine sort w l k b ≡ true → LineFine sort w l k b
  unfolding header_of
  line_fine_lem e = go (cases (ltb (length b) l)) (cases (ltb l 32))
    where
      go : (ltb (length b) l ≡ true) ⊎ (ltb (length b) l ≡ false) → (ltb l 32 ≡ true) ⊎ (ltb l 32 ≡ false) → LineFine sort w l k b
      go (inl h) n = absurd (false≢true (not_whole (ltb-true (length b) l h) ∙ e))
      go (inr h) (inl n) = absurd (false≢true (no_room (ltb-false (length b) l h) (ltb-true l 32 n) ∙ e))
      go (inr h) (inr n) =
          let all = tested (ltb-false (length b) l h) (ltb-false l 32 n) ∙ e in
          record {
            whole = ltb-false (length b) l h;
            head = all_fine (header_tests (k + 1) (line_codes sort) l b)
                (both_l (all_hold (header_tests (k + 1) (line_codes sort) l b)) (all_hold (line_tests w k (take l b))) all);
            body = all_fine (line_tests w k (take l b))
                (both_r (all_hold (header_tests (k + 1) (line_codes sort) l b)) (all_hold (line_tests w k (take l b))) all);
          }

-- the count of lines, by its cases
module _ (sort w l k : ℕ) (b : List ℕ) where
  lines_step : (most : ℕ) → line_fine sort w l k b ≡ true → lines_fine sort w l k (suc most) b ≡ suc (lines_fine sort w l (suc k) most (drop l b))
  unfolding lines_fine
  lines_step most e = rw e

  lines_stop : (most : ℕ) → line_fine sort w l k b ≡ false → lines_fine sort w l k (suc most) b ≡ 0
  unfolding lines_fine
  lines_stop most e = rw e

lines_none : (sort w l k : ℕ) (b : List ℕ) → lines_fine sort w l k 0 b ≡ 0
unfolding lines_fine
lines_none sort w l k b = refl

-- what the loop has found, and what is left: the next line is fine, is not, or none is left
module _ (sort w l k most c at : ℕ) (b : List ℕ) where
  -- the count is c, and how many of those left are fine
  abbrev pub Counting : Type 0
  Counting = c + lines_fine sort w l (k + c) (most - c) (drop at b) ≡ lines_fine sort w l k most b

  module _ (before : Counting) where
    pub count_full : most ≤ c → c ≡ lines_fine sort w l k most b
    count_full h =
        let e : most - c ≡ 0 = omega arith in
        let z = ap (λ (i : ℕ). lines_fine sort w l (k + c) i (drop at b)) e ∙ lines_none sort w l (k + c) (drop at b) in
        omega (arith, before, z)

    pub count_stop : c < most → line_fine sort w l (k + c) (rest b at) ≡ false → c ≡ lines_fine sort w l k most b
    count_stop h n =
        let e : most - c ≡ suc (most - (c + 1)) = omega arith in
        let z = ap (λ (i : ℕ). lines_fine sort w l (k + c) i (drop at b)) e
        ∙ lines_stop sort w l (k + c) (drop at b) (most - (c + 1)) (ap (line_fine sort w l (k + c)) (sym (rest_is b at)) ∙ n) in
        omega (arith, before, z)

    pub count_more : c < most → line_fine sort w l (k + c) (rest b at) ≡ true → c + 1 + lines_fine sort w l (k + (c + 1)) (most - (c + 1))
        (drop (at + l) b) ≡ lines_fine sort w l k most b
    count_more h n =
        let e : most - c ≡ suc (most - (c + 1)) = omega arith in
        let s : suc (k + c) ≡ k + (c + 1) = omega arith in
        let z = ap (λ (i : ℕ). lines_fine sort w l (k + c) i (drop at b)) e
        ∙ lines_step sort w l (k + c) (drop at b) (most - (c + 1)) (ap (line_fine sort w l (k + c)) (sym (rest_is b at)) ∙ n) in
        let d = ap (λ (y : List ℕ). lines_fine sort w l (suc (k + c)) (most - (c + 1)) y) (drop-drop l at b)
        ∙ ap (λ (i : ℕ). lines_fine sort w l i (most - (c + 1)) (drop (at + l) b)) s in
        omega (arith, before, z, d)

pub count_none : (sort w l k most : ℕ) (b : List ℕ) → Counting sort w l k most 0 0 b
count_none sort w l k most b =
    let s : k + 0 ≡ k = omega arith in
    let m : most - 0 ≡ most = omega arith in
    let z = ap (λ (i : ℕ). lines_fine sort w l i (most - 0) b) s ∙ ap (λ (i : ℕ). lines_fine sort w l k i b) m in
    omega (arith, z)

-- a line that is fine lies within the bytes
pub fine_room : (sort w l k at : ℕ) (b : List ℕ) → at ≤ length b → line_fine sort w l k (rest b at) ≡ true → at + l ≤ length b
fine_room sort w l k at b h e = rest_room b at l h (line_fine_lem sort w l k (rest b at) e).whole

-- ---- the lines that were counted: few, within the bytes, and each fine

pub lines_few : (sort w l k most : ℕ) (b : List ℕ) → lines_fine sort w l k most b ≤ most
lines_few sort w l k zero b = omega (arith, lines_none sort w l k b)
lines_few sort w l k (suc most) b =
    ⊎_elim (λ e. omega (arith, lines_step sort w l k b most e, lines_few sort w l (suc k) most (drop l b))) (λ e. omega (arith, lines_stop sort w l k b most e))
    (cases (line_fine sort w l k b))

pub lines_room : (sort w l k most : ℕ) (b : List ℕ) → lines_fine sort w l k most b * l ≤ length b
lines_room sort w l k zero b = rw (lines_none sort w l k b, zero-mul) (omega arith)
lines_room sort w l k (suc most) b =
    ⊎_elim
    (λ e.
    rw (lines_step sort w l k b most e, suc-mul)
    (omega (arith, (line_fine_lem sort w l k b e).whole, lines_room sort w l (suc k) most (drop l b), length-drop l b)))
    (λ e. rw (lines_stop sort w l k b most e, zero-mul) (omega arith))
    (cases (line_fine sort w l k b))

-- a line and those behind it
lines_cons : (sort w l k c : ℕ) (b : List ℕ) → LineFine sort w l k b → LinesFine sort w l (suc k) c (drop l b) → LinesFine sort w l k (suc c) b
lines_cons sort w l k c b f fs zero h =
    subst (λ (j : ℕ). LineFine sort w l j (drop (0 * l) b)) (let e : k ≡ k + 0 = omega arith in e)
    (subst (λ (j : ℕ). LineFine sort w l k (drop j b)) (sym (zero-mul l)) f)
lines_cons sort w l k c b f fs (suc i) h =
    subst (λ (j : ℕ). LineFine sort w l j (drop (suc i * l) b)) (let e : suc k + i ≡ k + suc i = omega arith in e)
    (subst (λ (x : List ℕ). LineFine sort w l (suc k + i) x) (drop-drop (i * l) l b
    ∙ ap (λ (j : ℕ). drop j b) (let e : l + i * l ≡ suc i * l = omega (arith, suc-mul i l) in e))
    (fs i (omega arith)))

pub lines_are : (sort w l k most : ℕ) (b : List ℕ) → LinesFine sort w l k (lines_fine sort w l k most b) b
lines_are sort w l k zero b = rw (lines_none sort w l k b) (λ i h. absurd (omega arith))
lines_are sort w l k (suc most) b =
    ⊎_elim
    (λ e. rw (lines_step sort w l k b most e)
    (lines_cons sort w l k (lines_fine sort w l (suc k) most (drop l b)) b (line_fine_lem sort w l k b e) (lines_are sort w l (suc k) most (drop l b))))
    (λ e. rw (lines_stop sort w l k b most e) (λ i h. absurd (omega arith)))
    (cases (line_fine sort w l k b))

-- ---- they part into the first and those behind it

-- the lines behind the first
pub tail_fine : (sort w l k c : ℕ) (b : List ℕ) → LinesFine sort w l k (suc c) b → LinesFine sort w l (suc k) c (drop l b)
tail_fine sort w l k c b f i h =
    subst (λ (j : ℕ). LineFine sort w l j (drop (i * l) (drop l b))) (let e : k + suc i ≡ suc k + i = omega arith in e)
    (subst (λ (x : List ℕ). LineFine sort w l (k + suc i) x) (ap (λ (j : ℕ). drop j b) (let e : suc i * l ≡ l + i * l = omega (arith, suc-mul i l) in e)
    ∙ sym (drop-drop (i * l) l b))
    (f (suc i) (omega arith)))

pub head_fine : (sort w l k c : ℕ) (b : List ℕ) → LinesFine sort w l k (suc c) b → LineFine sort w l k b
head_fine sort w l k c b f =
    subst (λ (j : ℕ). LineFine sort w l j b) (let e : k + 0 ≡ k = omega arith in e)
    (subst (λ (j : ℕ). LineFine sort w l (k + 0) (drop j b)) (zero-mul l) (f 0 (omega arith)))
