-- The lines and the leader entries one turn at a time: what is left to judge behind the entries that pass is the whole judging.
use Prim.Native.Nat.{ℕ, zero, suc, ◌+◌, ◌-◌, ◌*◌, ◌≤◌, ◌<◌}
use mathlib.Core.Path.{◌≡◌, refl, sym, ap, ap₂, ◌∙◌}
use mathlib.Core.List.{List, [], ◌∷◌}
use mathlib.Core.Bool.{Bool, true}
use native.Mathlib.Nat.{mul-suc}
use native.Mathlib.Numerals.{add-one}
use native.Mathlib.Omega.{arith}
use lib.Dec.{eqb}
use lib.ListN.{length, take, drop, set, length-drop}
use lib.Seq.{take_all, drop-drop, sets-eq}
use borrow.Author.Tests.{eq-eqb, ne_eqb}
use Rattle.std.specs.Prelude.{Result, Ok, Err}
use Rattle.words.specs.Tests.{both_of}
use Rattle.words.specs.Words.{four_at}
use Rattle.words.specs.Answer.{refusal_at}
use Rattle.words.specs.declared.Refusal.{Refusal}
use Rattle.words.proofs.Laws.{both_l, both_r, within_true}
use Rattle.writing.specs.Writing.{written}
use Rattle.writing.proofs.WrittenLaws.{written_none, written_then}
use Rattle.plan.specs.Plan.{plan_good, image_good, image_ranges, image_agrees, slots_zero?}
use Rattle.plan.specs.declared.Plan.{Plan}
use Rattle.cards.specs.Check.{Checked, carded, body_of, fault_of, judged, plan_from, first_holds, line_holds, leader_holds}
use Rattle.cards.specs.Check.{lines_of, leaders_of, pairs_from, Few}
use Rattle.cards.proofs.EntryLaws.{passes}

-- what the code hands on as `&card[at..]`
abbrev pub rest : List ℕ → ℕ → List ℕ
rest b at = take (length b - at) (drop at b)

pub rest_is : (b : List ℕ) (at : ℕ) → rest b at ≡ drop at b
rest_is b at = take_all (length b - at) (drop at b) (omega (arith, length-drop at b))

-- an entry's own refusal is that of whatever is judged behind it, and without one nothing is wrong with the entry
pub judged_err : {A : Type 0} (f : Result (Unit {0}) ℕ) (at : ℕ) (on : Result A Refusal) (r : Refusal) → judged {A = Unit {0}} f at (Ok tt) ≡ Err r
    → judged f at on ≡ Err r
judged_err (Ok u) at on r e = absurd cc
judged_err (Err m) at on r e = let p : refusal_at m at ≡ r = cc in ap Err p

pub judged_ok : (f : Result (Unit {0}) ℕ) (at : ℕ) → judged {A = Unit {0}} f at (Ok tt) ≡ Ok tt → f ≡ Ok tt
judged_ok (Ok u) at e = refl
judged_ok (Err m) at e = absurd cc

less_one : (m n : ℕ) → n < m → m - n ≡ suc (m - (n + 1))
less_one m n h = omega arith

-- an entry that passes lies within the card
pub pass_room : (want at : ℕ) (holds : Bool) (b : List ℕ) → at ≤ length b → fault_of want holds (rest b at) ≡ Ok tt → at + (1 + body_of want) ≤ length b
pass_room want at holds b h e =
    omega (arith, (passes want holds (drop at b) (rw (rest_is b at) at e)).whole, length-drop at b)

-- ---- lines

module _ (n k w at : ℕ) (b : List ℕ) where
  lines_at : k < n → lines_of (n - k) k w at (drop at b)
      ≡ judged (fault_of 2 (line_holds (k + 1) w (rest b at)) (rest b at)) at (lines_of (n - (k + 1)) (k + 1) w (at + 13) (drop (at + 13) b))
  unfolding lines_of
  lines_at h = ap (λ (f : ℕ). lines_of f k w at (drop at b)) (less_one n k h) ∙ rw (rest_is b at, ← drop-drop 13 at b, add-one k)

  pub lines_wrong : (r : Refusal) → k < n → judged {A = Unit {0}} (fault_of 2 (line_holds (k + 1) w (rest b at)) (rest b at)) at (Ok tt) ≡ Err r
      → Err r ≡ lines_of (n - k) k w at (drop at b)
  lines_wrong r h e = sym (lines_at h ∙ judged_err _ at _ r e)

  pub lines_next : k < n → fault_of 2 (line_holds (k + 1) w (rest b at)) (rest b at) ≡ Ok tt
      → lines_of (n - k) k w at (drop at b) ≡ lines_of (n - (k + 1)) (k + 1) w (at + 13) (drop (at + 13) b)
  lines_next h e = lines_at h ∙ ap (λ (f : Result (Unit {0}) ℕ). judged f at (lines_of (n - (k + 1)) (k + 1) w (at + 13) (drop (at + 13) b))) e

  pub lines_end : n ≤ k → Ok tt ≡ lines_of (n - k) k w at (drop at b)
  unfolding lines_of
  lines_end h = let z : n - k ≡ 0 = omega arith in sym (ap (λ (f : ℕ). lines_of f k w at (drop at b)) z)

-- lines that are all right lie within the card
pub lines_room : (m k w at : ℕ) (r : List ℕ) → lines_of m k w at r ≡ Ok tt → 13 * m ≤ length r
unfolding lines_of body_of
lines_room zero k w at r e = omega arith
lines_room (suc m) k w at r e = go (fault_of 2 (line_holds (suc k) w r) r) refl (lines_room m (suc k) w (at + 13) (drop 13 r)) e
  where
    go : (f : Result (Unit {0}) ℕ) → fault_of 2 (line_holds (suc k) w r) r ≡ f
        → (lines_of m (suc k) w (at + 13) (drop 13 r) ≡ Ok tt → 13 * m ≤ length (drop 13 r))
        → judged f at (lines_of m (suc k) w (at + 13) (drop 13 r)) ≡ Ok tt → 13 * suc m ≤ length r
    go (Ok u) q ih h =
        let s : 13 ≤ length r = (passes 2 (line_holds (suc k) w r) r q).whole in
        omega (arith, ih h, length-drop 13 r)
    go (Err f) q ih h = absurd cc

-- ---- leader entries

module _ (n k sum at : ℕ) (b : List ℕ) where
  leaders_at : (f : ℕ) → at < length b → leaders_of (suc f) n k sum at (drop at b)
      ≡ judged (fault_of 3 (leader_holds (k + 1) sum (rest b at)) (rest b at)) at (leaders_of f n (k + 1) (sum + four_at (rest b at) 6) (at + 10) (drop
      (at + 10) b))
  unfolding leaders_of
  leaders_at f h = rw (ne_eqb (length (drop at b)) 0 (λ z. omega (arith, length-drop at b)), rest_is b at, ← drop-drop 10 at b, add-one k)

  pub leaders_wrong : (f : ℕ) (r : Refusal) → at < length b → length b ≤ f + at
      → judged {A = Unit {0}} (fault_of 3 (leader_holds (k + 1) sum (rest b at)) (rest b at)) at (Ok tt) ≡ Err r → Err r ≡ leaders_of f n k sum at (drop at b)
  leaders_wrong zero r h l e = absurd (omega arith)
  leaders_wrong (suc f) r h l e = sym (leaders_at f h ∙ judged_err _ at _ r e)

  -- as many turns as there are bytes are enough
  pub leaders_next : (f : ℕ) → at < length b → length b ≤ f + at → fault_of 3 (leader_holds (k + 1) sum (rest b at)) (rest b at) ≡ Ok tt
      → (g : ℕ) × (length b ≤ g + (at + 10))
      × (leaders_of f n k sum at (drop at b) ≡ leaders_of g n (k + 1) (sum + four_at (rest b at) 6) (at + 10) (drop (at + 10) b))
  leaders_next zero h l e = absurd (omega arith)
  leaders_next (suc f) h l e = (
    f,
    omega arith,
    leaders_at f h
        ∙ ap (λ (x : Result (Unit {0}) ℕ). judged x at (leaders_of f n (k + 1) (sum + four_at (rest b at) 6) (at + 10) (drop (at + 10) b))) e,
  )

pub leaders_end : (f n k sum at : ℕ) (b : List ℕ) → length b ≤ at → carded n k ≡ leaders_of f n k sum at (drop at b)
unfolding leaders_of
leaders_end zero n k sum at b h = refl
leaders_end (suc f) n k sum at b h = sym (rw (eq-eqb (length (drop at b)) 0 (omega (arith, length-drop at b))))

-- ---- pairs of numbers

-- two numbers put, and the pairs behind them
pub pair_put : (out : List ℕ) (to a b : ℕ) (on : List ℕ) → to + (2 + length on) ≤ length out
    → written out to (a ∷ b ∷ on) ≡ written (set (set out to a) (to + 1) b) (to + 2) on
pair_put out to a b on h =
    sym (ap (λ (i : ℕ). written (set (set out to a) i b) (to + 2) on) (add-one to)
    ∙ ap (λ (l : List ℕ). written l (to + 2) on) (sets-eq (a ∷ b ∷ []) out to (omega arith))
    ∙ written_then out to (a ∷ b ∷ []) on (omega arith))

pub pairs_long : (m at step : ℕ) (bs : List ℕ) → length (pairs_from m at step bs) ≡ 2 * m
unfolding pairs_from
pairs_long zero at step bs = refl
pairs_long (suc m) at step bs = omega (arith, pairs_long m (at + step) step bs)

module _ (count i from step to : ℕ) (bs out : List ℕ) where
  pub pairs_next : (a b : ℕ) → i < count → to + 2 * count ≤ length out → a ≡ four_at bs (from + step * i) → b ≡ four_at bs (from + step * i + 4)
      → written out (to + 2 * i) (pairs_from (count - i) (from + step * i) step bs)
      ≡ written (set (set out (to + 2 * i) a) (to + 2 * i + 1) b) (to + 2 * (i + 1)) (pairs_from (count - (i + 1)) (from + step * (i + 1)) step bs)
  unfolding pairs_from
  pairs_next a b h r p q =
      let at : ℕ = from + step * i in
      let e : to + 2 * i + 2 ≡ to + 2 * (i + 1) = omega arith in
      let next : at + step ≡ from + step * (i + 1) = omega (arith, mul-suc step i, add-one i) in
      let on : List ℕ = pairs_from (count - (i + 1)) (at + step) step bs in
      ap (λ (f : ℕ). written out (to + 2 * i) (pairs_from f at step bs)) (less_one count i h)
      ∙ ap₂ (λ (x y : ℕ). written out (to + 2 * i) (x ∷ y ∷ on)) (sym p) (sym q)
      ∙ pair_put out (to + 2 * i) a b on (omega (arith, pairs_long (count - (i + 1)) (at + step) step bs))
      ∙ ap₂ (λ (j x : ℕ). written (set (set out (to + 2 * i) a) (to + 2 * i + 1) b) j (pairs_from (count - (i + 1)) x step bs)) e next

  pub pairs_end : count ≤ i → written out (to + 2 * i) (pairs_from (count - i) (from + step * i) step bs) ≡ out
  unfolding pairs_from
  pairs_end h = let z : count - i ≡ 0 = omega arith in
      ap (λ (f : ℕ). written out (to + 2 * i) (pairs_from f (from + step * i) step bs)) z ∙ written_none out (to + 2 * i)

-- ---- how many there are

pub refused_few : (most : ℕ) (r : Checked) (x : Refusal) → r ≡ Err x → Few most r
refused_few most r x e c h = absurd cc

pub few_more : (n most : ℕ) (r : Checked) → n ≤ most → Few n r → Few most r
few_more n most r h f c e = (omega (arith, (f c e).0), (f c e).1)

pub card_few : (n k : ℕ) → k ≤ 255 → Few n (carded n k)
card_few n k h c e = let p : n ≡ c.lines = cc in let q : k ≡ c.entries = cc in (omega arith, omega arith)

-- the numbers of kind 1 are an image's
pub first_few : (bs : List ℕ) → first_holds bs ≡ true → four_at bs 1 ≤ 999999
unfolding first_holds plan_good image_good
first_few bs h =
    let p : Plan = plan_from bs in
    let g = both_r (both_of (eqb p.pointers 0) (slots_zero? p)) (both_of (image_ranges p) (image_agrees p)) h in
    (within_true 1 p.n 999999 (both_l _ _ (both_l (image_ranges p) (image_agrees p) g))).1
