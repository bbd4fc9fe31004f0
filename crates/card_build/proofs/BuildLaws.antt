-- The entries as they are written, and the lines and the leader records one at a time: what is left to write behind those that are written gives the
-- whole; the answer by the two walks' stops.
use Prim.Native.Nat.{ℕ, zero, suc, ◌+◌, ◌-◌, ◌*◌, ◌%◌, ◌≤◌, ◌<◌}
use mathlib.Core.Path.{◌≡◌, refl, sym, ap, ap₂, ◌∙◌}
use mathlib.Core.List.{List, [], ◌∷◌, ◌++◌, append_assoc}
use native.Mathlib.Nat.{mul-le-mul, suc-mul}
use native.Mathlib.Numerals.{add-one}
use native.Mathlib.Omega.{arith}
use lib.ListN.{length, set, length-append, length-set}
use Rattle.words.specs.Words.{four_at, place_of}
use Rattle.writing.specs.Writing.{written, four_of}
use Rattle.writing.proofs.WrittenLaws.{written_none, written_on, written_one}
use Rattle.plan.specs.Plan.{leader, due_of, total_of}
use Rattle.plan.specs.declared.Plan.{Plan}
use Rattle.card_build.specs.Build.{line_bytes, leader_bytes, first_bytes, lines_bytes, leaders_bytes, card_bytes, card_long}

less_one : (m n : ℕ) → n < m → m - n ≡ suc (m - (n + 1))
less_one m n h = omega arith

-- how long the parts are
pub lines_long : (m k at l : ℕ) (bs : List ℕ) → length (lines_bytes m k at l bs) ≡ 13 * m
unfolding lines_bytes
lines_long zero k at l bs = refl
lines_long (suc m) k at l bs =
    omega (
      arith,
      length-append (line_bytes (suc k) (four_at bs (at + place_of 21)) (four_at bs (at + place_of 25))) (lines_bytes m (suc k) (at + l) l bs),
      lines_long m (suc k) (at + l) l bs,
    )

pub leaders_long : (m k : ℕ) (q : Plan) → length (leaders_bytes m k q) ≡ 10 * m
unfolding leaders_bytes
leaders_long zero k q = refl
leaders_long (suc m) k q =
    omega (
      arith,
      length-append (leader_bytes (suc k) (due_of leader q k).start (due_of leader q k).length) (leaders_bytes m (suc k) q),
      leaders_long m
          (suc k) q,
    )

-- an entry written, and the rest behind it
entry_on : (out : List ℕ) (to to' : ℕ) (e on new : List ℕ) → to + length e ≡ to' → to' + length on ≤ length out → new ≡ written out to e
    → written out to (e ++ on) ≡ written new to' on
entry_on out to to' e on new p h q = sym (written_on out to to' e on new (written new to' on) p h q refl)

-- lines before an image's last lie below 2 ^ 47
pub few_bytes : (k l : ℕ) → k ≤ 999999 → l ≤ 99999999 → k * l ≤ 999999 * 99999999
few_bytes k l a b = mul-le-mul a b

module _ (n k l : ℕ) (bs out new : List ℕ) where
  pub lines_next : (left count : ℕ) → k < n → 17 + 13 * n ≤ length out → left ≡ four_at bs (720 + k * l + place_of 21)
      → count ≡ four_at bs (720 + k * l + place_of 25) → new ≡ written out (17 + 13 * k) (line_bytes (k + 1) left count)
      → written out (17 + 13 * k) (lines_bytes (n - k) k (720 + k * l) l bs)
      ≡ written new (17 + 13 * (k + 1)) (lines_bytes (n - (k + 1)) (k + 1) (720 + (k + 1) * l) l bs)
  unfolding lines_bytes
  lines_next left count h r p q e =
      let at : ℕ = 720 + k * l in
      let to : ℕ = 17 + 13 * k in
      let next : at + l ≡ 720 + (k + 1) * l = omega (arith, suc-mul k l, add-one k) in
      let step : to + 13 ≡ 17 + 13 * (k + 1) = omega arith in
      let on : List ℕ = lines_bytes (n - (k + 1)) (k + 1) (at + l) l bs in
      ap (λ (f : ℕ). written out to (lines_bytes f k at l bs)) (less_one n k h)
      ∙ ap (λ (i : ℕ). written out to
      (line_bytes i (four_at bs (at + place_of 21)) (four_at bs (at + place_of 25)) ++ lines_bytes (n - (k + 1)) i (at + l) l bs))
      (sym (add-one k))
      ∙ ap₂ (λ (x y : ℕ). written out to (line_bytes (k + 1) x y ++ on)) (sym p) (sym q)
      ∙ entry_on out to (to + 13) (line_bytes (k + 1) left count) on new refl (omega (arith, lines_long (n - (k + 1)) (k + 1) (at + l) l bs)) e
      ∙ ap₂ (λ (j i : ℕ). written new j (lines_bytes (n - (k + 1)) (k + 1) i l bs)) step next

  pub lines_end : n ≤ k → written out (17 + 13 * k) (lines_bytes (n - k) k (720 + k * l) l bs) ≡ out
  unfolding lines_bytes
  lines_end h = let z : n - k ≡ 0 = omega arith in
      ap (λ (f : ℕ). written out (17 + 13 * k) (lines_bytes f k (720 + k * l) l bs)) z ∙ written_none out (17 + 13 * k)

module _ (n k from : ℕ) (q : Plan) (out new : List ℕ) where
  pub leaders_next : k < n → from + 10 * n ≤ length out
      → new ≡ written out (from + 10 * k) (leader_bytes (k + 1) (due_of leader q k).start (due_of leader q k).length)
      → written out (from + 10 * k) (leaders_bytes (n - k) k q) ≡ written new (from + 10 * (k + 1)) (leaders_bytes (n - (k + 1)) (k + 1) q)
  unfolding leaders_bytes
  leaders_next h r e =
      let to : ℕ = from + 10 * k in
      let step : to + 10 ≡ from + 10 * (k + 1) = omega arith in
      let on : List ℕ = leaders_bytes (n - (k + 1)) (k + 1) q in
      ap (λ (f : ℕ). written out to (leaders_bytes f k q)) (less_one n k h)
      ∙ ap (λ (i : ℕ). written out to (leader_bytes i (due_of leader q k).start (due_of leader q k).length ++ leaders_bytes (n - (k + 1)) i q)) (sym
      (add-one k))
      ∙ entry_on out to (to + 10) (leader_bytes (k + 1) (due_of leader q k).start (due_of leader q k).length) on new refl
      (omega (arith, leaders_long (n - (k + 1)) (k + 1) q)) e
      ∙ ap (λ (i : ℕ). written new i on) step

  pub leaders_end : n ≤ k → written out (from + 10 * k) (leaders_bytes (n - k) k q) ≡ out
  unfolding leaders_bytes
  leaders_end h = let z : n - k ≡ 0 = omega arith in
      ap (λ (f : ℕ). written out (from + 10 * k) (leaders_bytes f k q)) z ∙ written_none out (from + 10 * k)

-- the entries, number by number
pub first_put : (p : Plan) (out one two : List ℕ) → 17 ≤ length out → one ≡ written (set out 0 1) 1 (four_of p.n ++ four_of p.l)
    → two ≡ written one 9 (four_of p.w ++ four_of p.d) → two ≡ written out 0 (first_bytes p)
first_put p out one two h e q =
    written_on out 0 9 (1 ∷ (four_of p.n ++ four_of p.l)) (four_of p.w ++ four_of p.d) one two refl (omega arith)
    (written_on out 0 1 (1 ∷ []) (four_of p.n ++ four_of p.l) (set out 0 1) one refl (omega arith) (written_one out 0 1 (omega arith)) e) q

pub line_put : (out : List ℕ) (at k left count : ℕ) (one two : List ℕ) → at + 13 ≤ length out → one ≡ written (set out at 2) (at + 1) (four_of k)
    → two ≡ written one (at + 5) (four_of left ++ four_of count) → two ≡ written out at (line_bytes k left count)
line_put out at k left count one two h e q =
    written_on out at (at + 5) (2 ∷ four_of k) (four_of left ++ four_of count) one two (omega arith) (omega arith)
    (written_on out at (at + 1) (2 ∷ []) (four_of k) (set out at 2) one (omega arith) (omega arith) (written_one out at 2 (omega arith)) e) q

pub leader_put : (out : List ℕ) (at k start long : ℕ) (two : List ℕ) → at + 10 ≤ length out
    → two ≡ written (set (set out at 3) (at + 1) (k % 256)) (at + 2) (four_of start ++ four_of long) → two ≡ written out at (leader_bytes k start long)
leader_put out at k start long two h e =
    written_on out at (at + 2) (3 ∷ k % 256 ∷ []) (four_of start ++ four_of long) (set (set out at 3) (at + 1) (k % 256)) two (omega arith) (omega arith)
    (written_on out at (at + 1) (3 ∷ []) (k % 256 ∷ []) (set out at 3) (set (set out at 3) (at + 1) (k % 256)) (omega arith) (omega arith)
    (written_one out at 3 (omega arith))
    (written_one (set out at 3) (at + 1) (k % 256) (omega (arith, length-set out at 3)))) e

-- the card, part by part
pub card_put : (p q : Plan) (records : ℕ) (bs out one two three : List ℕ) → records ≡ total_of leader q → card_long p q ≤ length out
    → one ≡ written out 0 (first_bytes p) → two ≡ written one 17 (lines_bytes p.n 0 720 p.l bs)
    → three ≡ written two (17 + 13 * p.n) (leaders_bytes records 0 q)
    → three ≡ written out 0 (card_bytes p q bs)
unfolding card_bytes
card_put p q records bs out one two three t h e f g =
    let a : List ℕ = first_bytes p in
    let b : List ℕ = lines_bytes p.n 0 720 p.l bs in
    let c : List ℕ = leaders_bytes (total_of leader q) 0 q in
    let lb : length b ≡ 13 * p.n = lines_long p.n 0 720 p.l bs in
    let lc : length c ≡ 10 * total_of leader q = leaders_long (total_of leader q) 0 q in
    let lab : length (a ++ b) ≡ 17 + 13 * p.n = length-append a b ∙ (omega arith) in
    let ab = written_on out 0 17 a b one two refl (omega arith) e f in
    written_on out 0 (17 + 13 * p.n) (a ++ b) c two three (omega arith) (omega arith) ab
    (g ∙ ap (λ (r : ℕ). written two (17 + 13 * p.n) (leaders_bytes r 0 q)) t) ∙ ap (written out 0) (append_assoc a b c)
