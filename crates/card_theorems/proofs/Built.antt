-- What was built reads back: the bytes that the builder writes for two accepted files are a card of the scene's numbers.
use Prim.Native.Nat.{ℕ, zero, suc, ◌+◌, ◌-◌, ◌*◌, ◌/◌, ◌%◌, ◌^◌, ◌≤◌, ◌<◌}
use mathlib.Core.Path.{◌≡◌, refl, sym, ap, ap₂, ◌∙◌, subst}
use mathlib.Core.List.{List, [], ◌∷◌, ◌++◌}
use mathlib.Core.Bool.{true}
use native.Mathlib.Omega.{arith}
use native.Mathlib.Nat.{suc-mul, zero-mul}
use lib.ListN.{length, take, drop}
use lib.Seq.{get_or-take, get_or-drop}
use Rattle.words.specs.Tests.{within_of}
use Rattle.words.specs.Words.{byte_at, four_at, two_at, place_of}
use Rattle.words.proofs.Laws.{four_bytes, within_true, both_l, both_r}
use Rattle.plan.specs.Plan as plan
use Rattle.plan.specs.Plan.{total_of, due_of, plan_good, spot_of, image_ranges}
use Rattle.plan.specs.declared.Plan.{Plan}
use Rattle.plan.proofs.GoodLaws.{image_within, image_agrees_lem, image_room, image_bounds}
use Rattle.entry.specs.Entry.{concat}
use Rattle.card_theorems.specs.Card.{Fill, First, Line, Leader, Lines, Leaders, Card}
use Rattle.card_build.specs.Build.{first_bytes, line_bytes, leader_bytes, lines_bytes, leaders_bytes, card_bytes}
use Rattle.promises.specs.Shown.{line_start, line_record, left_fill, data_count, Stands}
use Rattle.promises.proofs.Sorts.{group_same, ahead_same}
use Rattle.promises.proofs.Starts.{end_to_end}
use Rattle.card_theorems.specs.Scene.{fills_of, spans_of, scene_of}
use Rattle.card_theorems.proofs.Bounds.{few_records, ends_early}

-- ---- four bytes read back

back : (n : ℕ) → n < 2 ^ 32 → (n / 256 / 256 / 256 % 256 * 256 + n / 256 / 256 % 256) * 65536 + (n / 256 % 256 * 256 + n % 256) ≡ n
back n h = omega arith

-- ---- kind 1

pub first_written : (p : Plan) → plan_good plan.image p ≡ true → First (first_bytes p) p.n p.l p.w p.d
unfolding four_at two_at
first_written p g =
    let r = image_within p g in
    let b = image_bounds p r in
    let o = image_agrees_lem p g in
    let r₁ = both_r (within_of 1 p.n 999999) _ r in
    let r₂ = both_r (within_of 1 p.l 999999) _ r₁ in
    let r₃ = both_r (within_of 1 p.w 99999999) _ r₂ in
    let n = within_true 1 p.n 999999 (both_l (within_of 1 p.n 999999) _ r) in
    let l = within_true 1 p.l 999999 (both_l (within_of 1 p.l 999999) _ r₁) in
    let w = within_true 1 p.w 99999999 (both_l (within_of 1 p.w 99999999) _ r₂) in
    let d = within_true 1 p.d 99999999 (both_l (within_of 1 p.d 99999999) _ r₃) in
    record {
      is = record { size = refl; kind = refl };
      says_n = back p.n (omega (arith, n));
      says_l = back p.l (omega (arith, l));
      says_w = back p.w (omega (arith, w));
      says_d = back p.d (omega (arith, d));
      n_range = n;
      l_range = l;
      w_range = w;
      d_range = d;
      sort = p.sort;
      known = b.5;
      paired = o.0 ∙ ap (λ (i : ℕ). i * p.w) (group_same p.sort);
      room = omega (arith, o.1, ahead_same p.sort);
    }

-- ---- lines

line_written : (w k left count : ℕ) → k < 2 ^ 32 → left < 2 ^ 32 → count < 2 ^ 32 → left + count ≤ w
    → Line w k (line_bytes k left count) (record { left = left; count = count })
unfolding four_at two_at
line_written w k left count a b c h =
    record { is = record { size = refl; kind = refl }; number = back k a; left = back left b; count = back count c; fits = h }

line_entries : ℕ → ℕ → ℕ → ℕ → List ℕ → List (List ℕ)
line_entries zero k at l bs = []
line_entries (suc m) k at l bs = line_bytes (suc k) (four_at bs (at + place_of 21)) (four_at bs (at + place_of 25)) ∷ line_entries m (suc k) (at + l) l bs

lines_end : (m k at l : ℕ) (bs : List ℕ) → concat (line_entries m k at l bs) ≡ lines_bytes m k at l bs
unfolding lines_bytes line_entries
lines_end zero k at l bs = refl
lines_end (suc m) k at l bs =
    ap (λ (x : List ℕ). line_bytes (suc k) (four_at bs (at + place_of 21)) (four_at bs (at + place_of 25)) ++ x) (lines_end m (suc k) (at + l) l bs)

-- a number of a line's record
record_four : (at l i : ℕ) (bs : List ℕ) → i + 4 ≤ l → four_at (take l (drop at bs)) i ≡ four_at bs (at + i)
record_four at l i bs h =
    let b : (j : ℕ) → i + j < l → byte_at (take l (drop at bs)) (i + j) ≡ byte_at bs (at + i + j) =
    λ j s. get_or-take l (drop at bs) (i + j) 0 s ∙ get_or-drop at bs (i + j) 0 ∙ ap (byte_at bs) (let e : at + (i + j) ≡ at + i + j = omega arith in e) in
    let b0 : byte_at (take l (drop at bs)) i ≡ byte_at bs (at + i) = get_or-take l (drop at bs) i 0 (omega arith) ∙ get_or-drop at bs i 0 in
    sym (four_bytes (take l (drop at bs)) i) ∙ rw (b0, b 1 (omega arith), b 2 (omega arith), b 3 (omega arith)) (four_bytes bs (at + i))

module _ (bs : List ℕ) (p : Plan) (stands : (k : ℕ) → 1 ≤ k → k ≤ p.n → Stands bs k p) (n-few : p.n ≤ 999999) (w-few : p.w ≤ 99999999)
    (l-some : 192 ≤ p.l)
  where
    lines_written : (m k at : ℕ) → k + m ≡ p.n → at ≡ 720 + k * p.l → Lines p.w (suc k) (line_entries m k at p.l bs) (fills_of p bs m k)
    unfolding line_entries place_of
    lines_written zero k at e a = tt
    lines_written (suc m) k at e a =
        let s = (stands (suc k) (omega arith) (omega arith)).line.holds.fills in
        let z : suc k - 1 ≡ k = omega arith in
        let place : line_start p (suc k) ≡ at = ap (λ (i : ℕ). 720 + i * p.l) z ∙ sym a in
        let same : (i : ℕ) → i + 4 ≤ p.l → four_at (line_record p (suc k) bs) i ≡ four_at bs (at + i) =
        λ i h. ap (λ (x : ℕ). four_at (take p.l (drop x bs)) i) place ∙ record_four at p.l i bs h in
        let x = same 20 (omega arith) in
        let y = same 24 (omega arith) in
        let f : Fill = record { left = four_at bs (at + 20); count = four_at bs (at + 24) } in
        let q : f ≡ record { left = left_fill (line_record p (suc k) bs); count = data_count (line_record p (suc k) bs) } =
        ap₂ (λ (u v : ℕ). record { left = u; count = v }) (sym x) (sym y) in (
          subst (Line p.w (suc k) (line_bytes (suc k) (four_at bs (at + 20)) (four_at bs (at + 24)))) q
              (line_written p.w (suc k) (four_at bs (at + 20)) (four_at bs (at + 24)) (omega arith) (omega (arith, x, s)) (omega (arith, y, s)) (omega
              (arith, x, y, s))),
          lines_written m (suc k) (at + p.l) (omega arith) (a' a),
        )
      where
        a' : at ≡ 720 + k * p.l → at + p.l ≡ 720 + suc k * p.l
        a' a = omega (arith, a, suc-mul k p.l)

-- ---- leader records

leader_written_lem : (k start long : ℕ) → k ≤ 255 → start < 2 ^ 32 → long < 2 ^ 32 → Leader start k (leader_bytes k start long)
    (record { start = start; long = long })
unfolding four_at two_at
leader_written_lem k start long a b c =
    record { is = record { size = refl; kind = refl }; ordinal = small; start = back start b; long = back long c; behind = refl }
  where
    small : k % 256 ≡ k
    small = omega arith

leader_entries : ℕ → ℕ → Plan → List (List ℕ)
leader_entries zero k q = []
leader_entries (suc m) k q = leader_bytes (suc k) (due_of plan.leader q k).start (due_of plan.leader q k).length ∷ leader_entries m (suc k) q

leaders_end : (m k : ℕ) (q : Plan) → concat (leader_entries m k q) ≡ leaders_bytes m k q
unfolding leaders_bytes leader_entries
leaders_end zero k q = refl
leaders_end (suc m) k q =
    ap (λ (x : List ℕ). leader_bytes (suc k) (due_of plan.leader q k).start (due_of plan.leader q k).length ++ x) (leaders_end m (suc k) q)

module _ (q : Plan) (few : total_of plan.leader q ≤ 50)
    (early : (k : ℕ) → k < total_of plan.leader q → (due_of plan.leader q k).start + (due_of plan.leader q k).length < 2 ^ 32)
  where
    leaders_written : (m k sum : ℕ) → k + m ≡ total_of plan.leader q → sum ≡ (due_of plan.leader q k).start → Leaders sum (suc k) (leader_entries m k q)
        (spans_of q m k)
    unfolding leader_entries
    leaders_written zero k sum e s = tt
    leaders_written (suc m) k sum e s =
        let h = early k (omega arith) in
        let start : ℕ = (due_of plan.leader q k).start in
        let long : ℕ = (due_of plan.leader q k).length in (
          subst (λ (i : ℕ). Leader i (suc k) (leader_bytes (suc k) start long) (record { start = start; long = long })) (sym s)
              (leader_written_lem (suc k) start long (omega arith) (omega arith) (omega arith)),
          leaders_written m (suc k) (sum + long) (omega arith) (ap (λ (i : ℕ). i + long) s ∙ sym (end_to_end plan.leader q k)),
        )

-- ---- the card

-- the builder's bytes for the plans of two accepted files are a card of the scene's numbers
pub built_card : (bs : List ℕ) (p q : Plan) → plan_good plan.image p ≡ true → ((k : ℕ) → 1 ≤ k → k ≤ p.n → Stands bs k p) → plan_good plan.leader q ≡ true
    → length q.counts ≡ 17 → length q.lengths ≡ 17 → Card (card_bytes p q bs) (scene_of p q bs)
unfolding card_bytes spot_of
built_card bs p q g stands h cs ls =
    let b = image_bounds p (image_within p g) in
    let n = total_of plan.leader q in
    record {
      first = first_bytes p;
      lines = line_entries p.n 0 720 p.l bs;
      leaders = leader_entries n 0 q;
      are = ap₂ (λ (x y : List ℕ). first_bytes p ++ (x ++ y)) (lines_end p.n 0 720 p.l bs) (leaders_end n 0 q);
      begins = first_written p g;
      each = lines_written bs p stands b.3 b.0 (omega (arith, image_room p g)) p.n 0 720 (omega arith) (omega (arith, zero-mul p.l));
      every = many p.n 0;
      follow = leaders_written q (few_records q h cs ls) (ends_early q h cs ls) n 0 0 (omega arith) refl;
    }
  where
    many : (m k : ℕ) → length (fills_of p bs m k) ≡ m
    many zero k = refl
    many (suc m) k = ap suc (many m (suc k))
