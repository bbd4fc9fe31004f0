-- Whatever record is due behind the first, some bytes pass as it: put together for each kind from its header and the least that its body must hold.
use Prim.Native.Nat.{ℕ, zero, suc, ◌+◌, ◌-◌, ◌*◌, ◌≤◌, ◌<◌}
use mathlib.Core.Path.{◌≡◌, refl, sym, ap, ◌∙◌, subst}
use mathlib.Core.List.{List, [], ◌∷◌, append-nil}
use mathlib.Core.Bool.{Bool, true, false}
use native.Mathlib.Nat.{add-zero, zero-add}
use native.Mathlib.Omega.{arith}
use lib.Dec.{ltb, leb, eqb}
use lib.ListN.{length, get_or, replicate, length-replicate}
use borrow.Author.Tests.{ltb-true, ltb-false, leb-true, ne_eqb, eq-eqb}
use Rattle.std.specs.Prelude.{Ok}
use Rattle.words.specs.Tests.{pick, both_of, within_of}
use Rattle.words.specs.Words.{place_of, two_at, four_at}
use Rattle.words.proofs.Laws.{both_l, both_r, within_true}
use Rattle.words.proofs.Table.{every_at}
use Rattle.digits.specs.Segments.{mantissa_of}
use Rattle.decimal.specs.Scan.{number_in, decimal_of, written}
use Rattle.fields.specs.Field.{field_at}
use Rattle.plan.specs.Tables.{slot, slots, slot_of, other_codes, rows}
use Rattle.plan.specs.Plan.{volume, leader, image, codes_of, first_length, run_counts, run_lengths, sum_of, total_of, spot_from, spot_of, due_of}
use Rattle.plan.specs.Plan.{slot_good, slots_good, records_most}
use Rattle.plan.specs.Plan.{leader_good, plan_good}
use Rattle.plan.specs.declared.Codes.{Codes}
use Rattle.plan.specs.declared.Plan.{Plan}
use Rattle.plan.specs.declared.Slot.{Slot}
use Rattle.plan.specs.declared.Spot.{Spot}
use Rattle.plan.proofs.Bounds.{slot_each, small_good, total_small}
use Rattle.plan.proofs.CodeLaws.{sort_code}
use Rattle.plan.proofs.GoodLaws.{image_bounds, image_within, image_room}
use Rattle.verdicts.specs.Tests.{first_fault, text_at, text_test}
use Rattle.verdicts.specs.Numbers.{numbers_tests}
use Rattle.volume.specs.Volume.{class_text, pointer_numbers, pointer_tests, volume_record}
use Rattle.leader.specs.Leader.{fields_tests, leader_record}
use Rattle.image.specs.Image.{line_tests, image_record}
use Rattle.bodies.specs.Bodies.{body_tests, body_of}
use Rattle.verdicts.proofs.Holding.{Holds, holds_fine}
use Rattle.headers.specs.Header.{header_of}
use Rattle.promises.specs.Bytes.{Bytes}
use Rattle.promises.specs.Witness.{four, made, class_bytes, pointer_parts, pointer_rest, line_parts, line_rest}
use Rattle.promises.proofs.Made.{four_sum, four_bytes, made_header, made_length, made_bytes, bytes_concat, bytes_same, Small}

-- ---- the run of a record that is due

record Run (i : ℕ) (cs ls : List ℕ) (s : Spot) : Type 0 where
  row : ℕ
  below : row < length cs
  some : 1 ≤ get_or cs row 0
  run : s.run ≡ i + row
  long : s.length ≡ get_or ls row 0

module _ (i c l : ℕ) (cs ls : List ℕ) (s : Spot) where
  run_here : 1 ≤ c → s.run ≡ i → s.length ≡ l → Run i (c ∷ cs) (l ∷ ls) s
  run_here h e f = record { row = 0; below = omega arith; some = h; run = e ∙ sym (add-zero i); long = f }

  run_on : Run (i + 1) cs ls s → Run i (c ∷ cs) (l ∷ ls) s
  run_on r = record { row = suc r.row; below = omega (arith, r.below); some = r.some; run = omega (arith, r.run); long = r.long }

run_of : (i : ℕ) (cs ls : List ℕ) (k at : ℕ) → length cs ≡ length ls → k < sum_of cs → Run i cs ls (spot_from i cs ls k at)
unfolding sum_of spot_from
run_of i [] ls k at e h = absurd (omega arith)
run_of i (c ∷ cs) [] k at e h = absurd (omega arith)
run_of i (c ∷ cs) (l ∷ ls) k at e h = go (ltb k c) refl (λ m. run_of (i + 1) cs ls (k - c) (at + c * l) (omega arith) (omega arith))
  where
    go : (b : Bool) → ltb k c ≡ b → (c ≤ k → Run (i + 1) cs ls (spot_from (i + 1) cs ls (k - c) (at + c * l)))
        → Run i (c ∷ cs) (l ∷ ls) (pick b (record { run = i; length = l; start = at + k * l }) (spot_from (i + 1) cs ls (k - c) (at + c * l)))
    go true z f = run_here i c l cs ls _ (let y = ltb-true k c z in omega arith) refl refl
    go false z f = run_on i c l cs ls _ (f (ltb-false k c z))

-- ---- bytes that pass as record k, of that run and length

record Passing (kind : ℕ) (p : Plan) (k run long : ℕ) : Type 0 where
  made : List ℕ
  bytes : Bytes made
  twelve : 12 ≤ long
  size : length made ≡ long
  head : header_of (k + 1) (codes_of kind p run) long made ≡ Ok tt
  body : body_of kind run p k made ≡ Ok tt

-- put together of a header and what follows it
module _ (kind : ℕ) (p : Plan) (k run long : ℕ) (rest : List ℕ) where
  put : k < records_most + 1 → long ≤ 99999999 → Small (codes_of kind p run) → Bytes rest → 12 + length rest ≡ long
      → body_of kind run p k (made (k + 1) (codes_of kind p run) long rest) ≡ Ok tt → Passing kind p k run long
  put hk hl c b e f =
      record {
        made = made (k + 1) (codes_of kind p run) long rest;
        bytes = made_bytes (k + 1) (codes_of kind p run) long rest (omega arith) c (omega arith) b;
        twelve = omega arith;
        size = made_length (k + 1) (codes_of kind p run) long rest ∙ e;
        head = made_header (k + 1) (codes_of kind p run) long rest;
        body = f;
      }

-- ---- volume

module _ (n : ℕ) (c : Codes) (long : ℕ) where
  pointer_body_lem : (a b : Bool)
      → first_fault (text_test (made n c long (pointer_rest (class_bytes a b))) 65 (class_bytes a b)
      ∷ numbers_tests (made n c long (pointer_rest (class_bytes a b))) pointer_numbers) ≡ Ok tt
  unfolding class_bytes pointer_rest pointer_parts numbers_tests first_fault text_at field_at place_of mantissa_of number_in decimal_of written made four
  pointer_body_lem true b = refl
  pointer_body_lem false true = refl
  pointer_body_lem false false = refl

class_bytes_lem : (a b : Bool) → Bytes (class_bytes a b)
unfolding class_bytes
class_bytes_lem true b = omega arith
class_bytes_lem false true = omega arith
class_bytes_lem false false = omega arith

pointer_length : (a b : Bool) → 12 + length (pointer_rest (class_bytes a b)) ≡ 360
unfolding class_bytes pointer_rest pointer_parts
pointer_length true b = refl
pointer_length false true = refl
pointer_length false false = refl

pointer_bytes : (t : List ℕ) → Bytes t → Bytes (pointer_rest t)
unfolding pointer_rest pointer_parts
pointer_bytes t h =
    bytes_concat (pointer_parts t) (
      bytes_same 52 32 (omega arith),
      (h, (bytes_same 32 32 (omega arith), (omega arith, (omega arith, (bytes_same 244 32 (omega arith), tt))))),
    )

module _ (p : Plan) (k : ℕ) (hk : k < records_most + 1) where
  pointer_some : Passing 1 p k 1 360
  unfolding class_text class_bytes body_of body_tests volume_record pointer_tests codes_of other_codes
  pointer_some =
      put 1 p k 1 360 (pointer_rest (class_bytes (eqb k 1) (eqb k p.pointers))) hk (omega arith)
      (record { one = omega arith; two = omega arith; three = omega arith; four = omega arith })
      (pointer_bytes _ (class_bytes_lem (eqb k 1) (eqb k p.pointers))) (pointer_length (eqb k 1) (eqb k p.pointers))
      (pointer_body_lem (k + 1) (codes_of 1 p 1) 360 (eqb k 1) (eqb k p.pointers))

  text_some : Passing 1 p k 2 360
  unfolding body_of body_tests volume_record first_fault codes_of other_codes
  text_some =
      put 1 p k 2 360 (replicate 348 32) hk (omega arith) (record { one = omega arith; two = omega arith; three = omega arith; four = omega arith })
      (bytes_same 348 32 (omega arith)) refl refl

-- ---- leader: blanks

module _ (p : Plan) (k n : ℕ) (c : Codes) where
  summary_body_lem : body_of 2 1 p k (made n c 4096 (replicate 4084 32)) ≡ Ok tt
  unfolding body_of body_tests leader_record fields_tests first_fault field_at place_of decimal_of written made four
  summary_body_lem = refl

  map_body_lem : body_of 2 2 p k (made n c 1620 (replicate 1608 32)) ≡ Ok tt
  unfolding body_of body_tests leader_record fields_tests first_fault field_at place_of decimal_of written made four
  map_body_lem = refl

  slot_body : (j long : ℕ) → (j ≡ 0 → long ≡ 4096) → (j ≡ 1 → long ≡ 1620) → body_of 2 (suc j) p k (made n c long (replicate (long - 12) 32)) ≡ Ok tt
  unfolding body_of body_tests leader_record first_fault
  slot_body zero long a b = subst (λ (l : ℕ). body_of 2 1 p k (made n c l (replicate (l - 12) 32)) ≡ Ok tt) (sym (a refl)) summary_body_lem
  slot_body (suc zero) long a b = subst (λ (l : ℕ). body_of 2 2 p k (made n c l (replicate (l - 12) 32)) ≡ Ok tt) (sym (b refl)) map_body_lem
  slot_body (suc (suc j)) long a b =
      simp (ne_eqb (suc (suc (suc j))) 0 (λ z. omega arith), ne_eqb (suc (suc (suc j))) 1 (λ z. omega arith), ne_eqb (suc (suc (suc j))) 2 (λ z. omega arith))

-- the table's codes are bytes, and no slot's record is shorter than its header
modest : Slot → Bool
modest s = both_of (leb s.code 255) (leb 12 s.shortest)

slot_modest : (i : ℕ) → i < rows → ((slot_of i).code < 256) × (12 ≤ (slot_of i).shortest)
unfolding slot_of modest
slot_modest i h =
    let e = every_at modest slots (slot 0 0 0 0 0) refl i h in
    let a : (slot_of i).code ≤ 255 = leb-true (slot_of i).code 255 (both_l (leb (slot_of i).code 255) _ e) in
    (omega arith, leb-true _ _ (both_r (leb (slot_of i).code 255) _ e))

module _ (p : Plan) (good : plan_good 2 p ≡ true) where
  slot_good_lem : (j : ℕ) → j < rows → slot_good j (get_or p.counts j 0) (get_or p.lengths j 0) ≡ true
  unfolding plan_good leader_good
  slot_good_lem j h =
      let s : slots_good 0 rows p.counts p.lengths ≡ true = both_l _ _ (both_r (eqb p.pointers 0) _ good) in
      subst (λ (i : ℕ). slot_good i (get_or p.counts i 0) (get_or p.lengths i 0) ≡ true) (zero-add j) (slot_each 0 rows p.counts p.lengths s j h)

  slot_long : (j : ℕ) → j < rows → 1 ≤ get_or p.counts j 0 → ((slot_of j).shortest ≤ get_or p.lengths j 0) × (get_or p.lengths j 0 ≤ (slot_of j).longest)
  slot_long j h m =
      within_true (slot_of j).shortest (get_or p.lengths j 0) (slot_of j).longest
      (ap (λ (b : Bool). pick b (eqb (get_or p.lengths j 0) 0) (within_of (slot_of j).shortest (get_or p.lengths j 0) (slot_of j).longest))
      (sym (ne_eqb (get_or p.counts j 0) 0 (λ z. omega arith)))
      ∙ both_r (within_of (slot_of j).least (get_or p.counts j 0) (slot_of j).most) _ (slot_good_lem j h))

  -- a slot whose records have one length has that one
  slot_fixed : (i long : ℕ) → i < rows → (slot_of i).shortest ≡ long → (slot_of i).longest ≡ long → (j : ℕ) → j < rows → 1 ≤ get_or p.counts j 0 → j ≡ i
      → get_or p.lengths j 0 ≡ long
  slot_fixed i long k a b j h m e =
      subst (λ (x : ℕ). 1 ≤ get_or p.counts x 0 → get_or p.lengths x 0 ≡ long) (sym e) (λ n. omega (arith, (slot_long i k n).0, (slot_long i k n).1, a, b)) m

  slot_one : (j : ℕ) → j < rows → 1 ≤ get_or p.counts j 0 → j ≡ 0 → get_or p.lengths j 0 ≡ 4096
  unfolding slot_of
  slot_one = slot_fixed 0 4096 (omega arith) refl refl

  slot_two : (j : ℕ) → j < rows → 1 ≤ get_or p.counts j 0 → j ≡ 1 → get_or p.lengths j 0 ≡ 1620
  unfolding slot_of
  slot_two = slot_fixed 1 1620 (omega arith) refl refl

  slot_codes : (j : ℕ) → j < rows → Small (codes_of 2 p (suc j))
  unfolding codes_of
  slot_codes j h = record { one = omega arith; two = (slot_modest j h).0; three = omega arith; four = omega arith }

  slot_short : (j : ℕ) → j < rows → get_or p.lengths j 0 ≤ 99999999
  unfolding run_lengths
  slot_short j h = (small_good 2 p good).short j h

  slot_some : (k j : ℕ) → k < records_most + 1 → j < rows → 1 ≤ get_or p.counts j 0 → Passing 2 p k (suc j) (get_or p.lengths j 0)
  slot_some k j hk h m =
      let long = get_or p.lengths j 0 in
      let l : 12 ≤ long = omega (arith, (slot_long j h m).0, (slot_modest j h).1) in
      put 2 p k (suc j) long (replicate (long - 12) 32) hk (slot_short j h) (slot_codes j h) (bytes_same (long - 12) 32 (omega arith))
      (omega (arith, length-replicate {A = ℕ} (long - 12) 32))
      (slot_body p k (k + 1) (codes_of 2 p (suc j)) j long (slot_one j h m) (slot_two j h m))

-- ---- image

module _ (p : Plan) (k n : ℕ) (c : Codes) where
  line_fills :
      four_at (made n c p.l (line_rest p k)) (place_of 21) + four_at (made n c p.l (line_rest p k)) (place_of 25)
      + four_at (made n c p.l (line_rest p k)) (place_of 29) ≡ p.w
  unfolding line_rest line_parts made four four_at two_at place_of
  line_fills = omega (arith, four_sum p.w)

  line_number : four_at (made n c p.l (line_rest p k)) (place_of 13) ≡ k
  unfolding line_rest line_parts made four four_at two_at place_of
  line_number = four_sum k

  line_index : four_at (made n c p.l (line_rest p k)) (place_of 17) ≡ 1
  unfolding line_rest line_parts made four four_at two_at place_of
  line_index = refl

  line_holds_lem : Holds (line_tests p.w k (made n c p.l (line_rest p k)))
  unfolding line_tests
  line_holds_lem = (eq-eqb _ _ line_number, (eq-eqb _ _ line_index, (eq-eqb _ _ line_fills, tt)))

  line_body_lem : body_of 3 1 p k (made n c p.l (line_rest p k)) ≡ Ok tt
  unfolding body_of body_tests image_record
  line_body_lem = holds_fine (line_tests p.w k (made n c p.l (line_rest p k))) line_holds_lem

module _ (p : Plan) (good : plan_good 3 p ≡ true) where
  line_some : (k : ℕ) → k < records_most + 1 → Passing 3 p k 1 p.l
  unfolding line_rest line_parts four codes_of other_codes
  line_some k hk =
      let b = image_bounds p (image_within p good) in
      put 3 p k 1 p.l (line_rest p k) hk (omega (arith, b.4)) (record
      { one = omega arith; two = omega (arith, sort_code p.sort); three = omega arith; four = omega arith })
      (bytes_concat (line_parts p k) (
        four_bytes k (omega arith),
        (
          four_bytes 1 (omega arith),
          (four_bytes 0 (omega arith), (four_bytes p.w (omega (arith, b.0)), (four_bytes 0 (omega arith), (bytes_same (p.l - 32) 0 (omega arith), tt)))),
        ),
      ))
      (rw (append-nil {A = ℕ} (replicate (p.l - 32) 0), length-replicate) (omega (arith, image_room p good))) (line_body_lem p k (k + 1) (codes_of 3 p 1))

-- ---- all kinds

replicate_none : (n i : ℕ) → get_or (replicate {A = ℕ} n 0) i 0 ≡ 0
replicate_none zero i = refl
replicate_none (suc n) zero = refl
replicate_none (suc n) (suc i) = replicate_none n i

moved : (kind : ℕ) (p : Plan) (k run long run' long' : ℕ) → run' ≡ run → long' ≡ long → Passing kind p k run long → Passing kind p k run' long'
moved kind p k run long run' long' e f x = rw (e, f) x

module _ (p : Plan) (k : ℕ) (hk : k < records_most + 1) (s : Spot) where
  volume_some : Run 1 (p.pointers ∷ 1 ∷ replicate 15 0) (360 ∷ 360 ∷ replicate 15 0) s → Passing 1 p k s.run s.length
  volume_some r = go r.row r.some r.run r.long
    where
      go : (j : ℕ) → 1 ≤ get_or (p.pointers ∷ 1 ∷ replicate 15 0) j 0 → s.run ≡ 1 + j → s.length ≡ get_or (360 ∷ 360 ∷ replicate 15 0) j 0
          → Passing 1 p k s.run s.length
      go zero m e f = moved 1 p k 1 360 s.run s.length e f (pointer_some p k hk)
      go (suc zero) m e f = moved 1 p k 2 360 s.run s.length e f (text_some p k hk)
      go (suc (suc j)) m e f = absurd (omega (arith, replicate_none 15 j))

  leader_some : plan_good 2 p ≡ true → length p.counts ≡ rows → Run 1 p.counts p.lengths s → Passing 2 p k s.run s.length
  leader_some g c r =
      moved 2 p k (suc r.row) (get_or p.lengths r.row 0) s.run s.length (omega (arith, r.run)) r.long
      (slot_some p g k r.row hk (omega (arith, r.below)) r.some)

  image_some : plan_good 3 p ≡ true → Run 1 (p.n ∷ replicate 16 0) (p.l ∷ replicate 16 0) s → Passing 3 p k s.run s.length
  image_some g r = go r.row r.some r.run r.long
    where
      go : (j : ℕ) → 1 ≤ get_or (p.n ∷ replicate 16 0) j 0 → s.run ≡ 1 + j → s.length ≡ get_or (p.l ∷ replicate 16 0) j 0 → Passing 3 p k s.run s.length
      go zero m e f = moved 3 p k 1 p.l s.run s.length e f (line_some p g k hk)
      go (suc j) m e f = absurd (omega (arith, replicate_none 16 j))

module _ (p : Plan) (c : length p.counts ≡ rows) (l : length p.lengths ≡ rows) where
  same_long : (kind : ℕ) → length (run_counts kind p) ≡ length (run_lengths kind p)
  unfolding run_counts run_lengths
  same_long kind = go (eqb kind volume) (eqb kind leader) (eqb kind image)
    where
      go : (x y z : Bool)
          → length (pick x (p.pointers ∷ 1 ∷ replicate 15 0) (pick y p.counts (pick z (p.n ∷ replicate 16 0) (replicate rows 0))))
          ≡ length (pick x (360 ∷ 360 ∷ replicate 15 0) (pick y p.lengths (pick z (p.l ∷ replicate 16 0) (replicate rows 0))))
      go true y z = refl
      go false true z = c ∙ sym l
      go false false true = refl
      go false false false = refl

  due_run : (kind k : ℕ) → 1 ≤ k → k < total_of kind p → Run 1 (run_counts kind p) (run_lengths kind p) (spot_of kind p k)
  unfolding spot_of total_of
  due_run kind zero h m = absurd (omega arith)
  due_run kind (suc k) h m = run_of 1 (run_counts kind p) (run_lengths kind p) k (first_length kind) (same_long kind) (omega arith)

  passing : (kind k : ℕ) → 1 ≤ kind → kind ≤ 4 → plan_good kind p ≡ true → 1 ≤ k → k < total_of kind p
      → Passing kind p k (due_of kind p k).run (due_of kind p k).length
  unfolding run_counts run_lengths total_of sum_of
  passing zero k a b g h m = absurd (omega arith)
  passing (suc zero) k a b g h m = volume_some p k (omega (arith, total_small 1 p c (small_good 1 p g))) (spot_of 1 p k) (due_run 1 k h m)
  passing (suc (suc zero)) k a b g h m = leader_some p k (omega (arith, total_small 2 p c (small_good 2 p g))) (spot_of 2 p k) g c (due_run 2 k h m)
  passing (suc (suc (suc zero))) k a b g h m = image_some p k (omega (arith, total_small 3 p c (small_good 3 p g))) (spot_of 3 p k) g (due_run 3 k h m)
  passing (suc (suc (suc (suc zero)))) k a b g h m = absurd (omega arith)
  passing (suc (suc (suc (suc (suc kind))))) k a b g h m = absurd (omega arith)

-- some bytes pass as the record that is due
pub later_some : (kind : ℕ) (p : Plan) (k : ℕ) → 1 ≤ kind → kind ≤ 4 → plan_good kind p ≡ true → length p.counts ≡ rows → length p.lengths ≡ rows
    → 1 ≤ k → k < total_of kind p
    → (r : List ℕ) × Bytes r × (length r ≡ (due_of kind p k).length)
    × (header_of (due_of kind p k).ordinal (due_of kind p k).codes (due_of kind p k).length r ≡ Ok tt)
    × (body_of kind (due_of kind p k).run p k r ≡ Ok tt)
later_some kind p k a b g c l h m =
    let x = passing p c l kind k a b g h m in
    (x.made, x.bytes, x.size, x.head, x.body)

-- it has a whole header
pub later_twelve : (kind : ℕ) (p : Plan) (k : ℕ) → 1 ≤ kind → kind ≤ 4 → plan_good kind p ≡ true → length p.counts ≡ rows → length p.lengths ≡ rows
    → 1 ≤ k → k < total_of kind p → 12 ≤ (due_of kind p k).length
later_twelve kind p k a b g c l h m = (passing p c l kind k a b g h m).twelve
