-- What the fault of a record can be, by going through the tests of every record once: its place lies in the record's first 10,000 bytes, so that its place
-- in the file fits 64 bits; its number is at most 10; and it is 2 only where the record is shorter than its fields need. The tables' rows are tested by one
-- computation.
use Prim.Native.Nat.{ℕ, ◌+◌, ◌≤◌, ◌<◌}
use mathlib.Core.Path.{◌≡◌, refl}
use mathlib.Core.List.{List, [], ◌∷◌, ◌++◌}
use mathlib.Core.Bool.{Bool, true, false}
use native.Mathlib.Omega.{arith}
use lib.Dec.{eqb, leb, ltb}
use lib.ListN.{length}
use lib.Seq.{slice}
use borrow.Author.Tests.{leb-true, ltb-true}
use Rattle.std.specs.Prelude.{Ok, Err, Some, None}
use Rattle.words.specs.Tests.{pick, both_of}
use Rattle.words.specs.Answer.{refusal_at}
use Rattle.words.specs.Words.{place_of}
use Rattle.words.proofs.Laws.{both_l, both_r}
use Rattle.words.proofs.Table.{every}
use Rattle.decimal.specs.Forms.{width_of}
use Rattle.decimal.specs.Scan.{written}
use Rattle.decimal.specs.declared.Form.{Form}
use Rattle.decimal.specs.declared.Form.TheVariants.{I6}
use Rattle.decimal.specs.Written.{Written}
use Rattle.fields.specs.Field.{field_at, field_bytes, bad_place, from_written, refuse}
use Rattle.fields.proofs.Laws.{bad_within}
use Rattle.fields.specs.Listed.{table}
use Rattle.fields.specs.declared.Listed.{Listed}
use Rattle.plan.specs.Plan.{volume, leader, image}
use Rattle.plan.specs.declared.Codes.{Codes}
use Rattle.plan.specs.declared.Plan.{Plan}
use Rattle.verdicts.specs.Tests.{Verdict, Test, first_fault, named_by, each, unread_number, unread_place, count_tests, number_tests}
use Rattle.verdicts.specs.Numbers.{Number, at, last_of, row_tests, numbers_tests}
use Rattle.volume.specs.Volume.{volume_numbers, pointer_numbers, volume_tests, pointer_tests, volume_record}
use Rattle.leader.specs.Leader.{pairs, slot_in, pair_tests, count_at, fields_tests, listed_tests, leader_tests, leader_record}
use Rattle.leader.specs.declared.Pair.{Pair}
use Rattle.image.specs.Image.{sort_in, image_numbers, agree_tests, agreements, image_tests, line_tests, image_record}
use Rattle.bodies.specs.Bodies.{trailer_tests, first_tests, body_tests, body_of}
use Rattle.bodies.specs.Named.{first_of, found_of}
use Rattle.headers.specs.Header.{header_tests, header_of}
use Rattle.turns.specs.Turn.{Near}

-- a fault's number and place, in a record r whose fields need so many bytes
pub record Can (need : ℕ) (r : List ℕ) (number place : ℕ) : Type 0 where
  pub near : place ≤ 10000
  pub low : number ≤ 10
  pub short : number ≡ 2 → length r < need

abbrev pub FaultCan : ℕ → List ℕ → Verdict → Type 0
FaultCan need r (Ok u) = Unit {0}
FaultCan need r (Err x) = Can need r x.number x.place

pub near_of : (need : ℕ) (r : List ℕ) (v : Verdict) → FaultCan need r v → Near v
near_of need r (Ok u) h = tt
near_of need r (Err x) h = h.near

-- every test's fault can be so
AllCan : ℕ → List ℕ → List Test → Type 0
AllCan need r [] = Unit {0}
AllCan need r (t ∷ ts) = Can need r t.number t.place × AllCan need r ts

-- a test of another number than 2
other : {need : ℕ} {r : List ℕ} (n at : ℕ) → 3 ≤ n → n ≤ 10 → at ≤ 10000 → Can need r n at
other n at l h k = record { near = k; low = h; short = λ e. absurd (omega arith) }

can_pick : (r : List ℕ) (b : Bool) (i j : ℕ) (ts us : List Test) → AllCan i r ts → AllCan j r us → AllCan (pick b i j) r (pick b ts us)
can_pick r true i j ts us a c = a
can_pick r false i j ts us a c = c

module _ (need : ℕ) (r : List ℕ) where
  can_fault : (ts : List Test) → AllCan need r ts → FaultCan need r (first_fault ts)
  unfolding AllCan first_fault
  can_fault [] a = tt
  can_fault (t ∷ ts) a = go t.holds (can_fault ts a.1)
    where
      go : (b : Bool) → FaultCan need r (first_fault ts) → FaultCan need r (pick b (first_fault ts) (Err (refusal_at t.number t.place)))
      go true n = n
      go false n = a.0

  can_append : (ts us : List Test) → AllCan need r ts → AllCan need r us → AllCan need r (ts ++ us)
  unfolding AllCan
  can_append [] us a b = b
  can_append (t ∷ ts) us a b = (a.0, can_append ts us a.1 b)

  can_each : {A : Type 0} (g : A → List Test) (f : A → Bool) → ((x : A) → f x ≡ true → AllCan need r (g x)) →
      (xs : List A) → every f xs ≡ true → AllCan need r (each g xs)
  unfolding AllCan
  can_each g f h [] e = tt
  can_each g f h (x ∷ xs) e = can_append (g x) (each g xs) (h x (both_l (f x) (every f xs) e)) (can_each g f h xs (both_r (f x) (every f xs) e))

  -- the field of that form from that byte on ends within the bytes needed
  abbrev ends : ℕ → Form → Bool
  ends byte k = leb (place_of byte + width_of k) need

  -- the tests of tables' rows, where the bytes needed are few
  module _ (few : need ≤ 10000) where
    within : (byte : ℕ) (k : Form) → ends byte k ≡ true → place_of byte ≤ 10000
    within byte k e = let h = leb-true (place_of byte + width_of k) need e in omega arith

    -- a field's first bad byte is not far behind its first
    bad_near : (p : ℕ) (k : Form) → p + width_of k ≤ need → bad_place r p k ≤ 10000
    bad_near p k h = omega (arith, bad_within r p k)

    -- a field's own refusal: 6 at its first bad byte, or at that place where it is blank, or 2 where the record ends before it does
    field_can : (p last : ℕ) (k : Form) → p + width_of k ≤ need → last ≤ 10000 →
        Can need r (unread_number (field_at r p k)) (unread_place last (field_at r p k))
    unfolding field_at
    field_can p last k h l = go (ltb (length r) (p + width_of k)) refl (written k (field_bytes r p k))
      where
        go : (b : Bool) → ltb (length r) (p + width_of k) ≡ b → (w : Written)
            → Can need r (unread_number (pick b (refuse 2 0) (from_written (bad_place r p k) w)))
            (unread_place last (pick b (refuse 2 0) (from_written (bad_place r p k) w)))
        go true e w = record { near = omega arith; low = omega arith; short = λ q. let l = ltb-true (length r) (p + width_of k) e in omega arith }
        go false e (Ok (Some x)) = other 6 last (omega arith) (omega arith) l
        go false e (Ok None) = other 6 last (omega arith) (omega arith) l
        go false e (Err x) = other 6 (bad_place r p k) (omega arith) (omega arith) (bad_near p k h)

    at_can : (byte : ℕ) (k : Form) → ends byte k ≡ true → Can need r (unread_number (at r byte k)) (unread_place (place_of byte) (at r byte k))
    at_can byte k e = field_can (place_of byte) (place_of byte) k (leb-true (place_of byte + width_of k) need e) (within byte k e)

    -- the same of a field that must be a number
    needed_can : (byte : ℕ) (k : Form) → ends byte k ≡ true → Can need r (unread_number (at r byte k)) (unread_place (last_of byte k) (at r byte k))
    needed_can byte k e =
        let h = leb-true (place_of byte + width_of k) need e in
        field_can (place_of byte) (last_of byte k) k h (omega arith)

    range_can : (byte : ℕ) (k : Form) → ends byte k ≡ true → Can need r 7 (place_of byte)
    range_can byte k e = other 7 (place_of byte) (omega arith) (omega arith) (within byte k e)

    row_can : (x : Number) → ends x.byte x.form ≡ true → AllCan need r (row_tests r x)
    unfolding AllCan
    row_can x e = (needed_can x.byte x.form e, (range_can x.byte x.form e, tt))

    listed_can : (x : Listed) → ends x.first x.form ≡ true → AllCan need r (listed_tests r x)
    unfolding AllCan
    listed_can x e = (at_can x.first x.form e, tt)

    pair_can : (x : Pair) → both_of (ends x.byte I6) (ends (x.byte + 6) x.form) ≡ true → AllCan need r (pair_tests r x)
    unfolding AllCan pair_tests
    pair_can x e =
        let a = both_l (ends x.byte I6) (ends (x.byte + 6) x.form) e in
        let b = both_r (ends x.byte I6) (ends (x.byte + 6) x.form) e in
        let s = slot_in x.row in
        let ts = number_tests (at r (x.byte + 6) x.form) (place_of (x.byte + 6)) (last_of (x.byte + 6) x.form) s.shortest s.longest in
        can_append (count_tests (at r x.byte I6) (place_of x.byte) s.least s.most) (pick (eqb (count_at r x) 0) [] ts)
        (at_can x.byte I6 a, (range_can x.byte I6 a, tt))
        (go (eqb (count_at r x) 0) ts
        (needed_can (x.byte + 6) x.form b, (range_can (x.byte + 6) x.form b, tt)))
      where
        go : (c : Bool) (ts : List Test) → AllCan need r ts → AllCan need r (pick c [] ts)
        go true ts h = tt
        go false ts h = h

    -- the rows of a table, and those from one to before another
    numbers_can : (xs : List Number) → every (λ (x : Number). ends x.byte x.form) xs ≡ true → AllCan need r (numbers_tests r xs)
    unfolding numbers_tests
    numbers_can xs e = can_each (row_tests r) (λ x. ends x.byte x.form) row_can xs e

    fields_can : (from to : ℕ) → every (λ (x : Listed). ends x.first x.form) (slice from to table) ≡ true → AllCan need r (fields_tests r from to)
    unfolding fields_tests
    fields_can from to e = can_each (listed_tests r) (λ x. ends x.first x.form) listed_can (slice from to table) e

-- ---- each record's tests, and the bytes that its fields need

abbrev volume_need : ℕ → ℕ
volume_need run = pick (eqb run 0) 360 (pick (eqb run 1) 360 0)

volume_can : (run m k : ℕ) (r : List ℕ) → AllCan (volume_need run) r (volume_record run m k r)
unfolding volume_record volume_tests pointer_tests AllCan place_of
volume_can run m k r =
    can_pick r (eqb run 0) 360 _ _ _ (other 8 12 (omega arith) (omega arith) (omega arith), numbers_can 360 r (omega arith) volume_numbers refl)
    (can_pick r (eqb run 1) 360 0 _ [] (other 8 64 (omega arith) (omega arith) (omega arith), numbers_can 360 r (omega arith) pointer_numbers refl) tt)

abbrev leader_need : ℕ → ℕ
leader_need run = pick (eqb run 0) 720 (pick (eqb run 1) 4096 (pick (eqb run 2) 1620 0))

leader_can : (run : ℕ) (r : List ℕ) → AllCan (leader_need run) r (leader_record run r)
unfolding leader_record leader_tests AllCan place_of
leader_can run r =
    can_pick r (eqb run 0) 720 _ _ _
    (other 8 12 (omega arith) (omega arith) (omega arith), can_each 720 r (pair_tests r) _ (pair_can 720 r (omega arith)) pairs refl)
    (can_pick r (eqb run 1) 4096 _ _ _ (fields_can 4096 r (omega arith) 0 10 refl)
    (can_pick r (eqb run 2) 1620 0 _ [] (fields_can 1620 r (omega arith) 10 13 refl) tt))

abbrev image_need : ℕ → ℕ
image_need run = pick (eqb run 0) 720 0

image_can : (run w k : ℕ) (r : List ℕ) → AllCan (image_need run) r (image_record run w k r)
unfolding image_record image_tests agree_tests line_tests AllCan place_of
image_can run w k r =
    can_pick r (eqb run 0) 720 0 _ _ (
      other 8 12 (omega arith) (omega arith) (omega arith),
      (
        other 8 428 (omega arith) (omega arith) (omega arith),
        can_append 720 r (numbers_tests r (image_numbers (sort_in r))) (agreements r)
            (numbers_can 720 r (omega arith) (image_numbers (sort_in r)) refl) (agreed, (agreed, (agreed, tt))),
      ),
    )
    (lined 12 (omega arith), (lined 16 (omega arith), (lined 20 (omega arith), tt)))
  where
    agreed : Can 720 r 8 0
    agreed = other 8 0 (omega arith) (omega arith) (omega arith)

    lined : (at : ℕ) → at ≤ 10000 → Can 0 r 10 at
    lined at h = other 10 at (omega arith) (omega arith) h

trailer_can : (r : List ℕ) → AllCan 0 r (trailer_tests r)
unfolding trailer_tests AllCan place_of
trailer_can r = (other 8 12 (omega arith) (omega arith) (omega arith), tt)

abbrev pub need_of : ℕ → ℕ → ℕ
need_of kind run = pick (eqb kind volume) (volume_need run) (pick (eqb kind leader) (leader_need run) (pick (eqb kind image) (image_need run) 0))

pub body_can : (kind run : ℕ) (p : Plan) (k : ℕ) (r : List ℕ) → FaultCan (need_of kind run) r (body_of kind run p k r)
unfolding body_of body_tests
body_can kind run p k r =
    can_fault (need_of kind run) r (body_tests kind run p k r)
    (can_pick r (eqb kind volume) _ _ _ _ (volume_can run p.pointers k r)
    (can_pick r (eqb kind leader) _ _ _ _ (leader_can run r) (can_pick r (eqb kind image) _ _ _ _ (image_can run p.w k r) (trailer_can r))))

pub body_near : (kind run : ℕ) (p : Plan) (k : ℕ) (r : List ℕ) → Near (body_of kind run p k r)
body_near kind run p k r = near_of (need_of kind run) r (body_of kind run p k r) (body_can kind run p k r)

-- what is found in a body, with the plan behind it
named_near : {A : Type 0} (v : Verdict) (a : A) → Near v → Near (named_by v a)
named_near (Ok u) a h = h
named_near (Err x) a h = h

pub found_near : (kind run : ℕ) (p : Plan) (k : ℕ) (r : List ℕ) → Near (found_of kind run p k r)
unfolding found_of first_of first_tests body_of body_tests volume_record leader_record image_record
found_near kind run p k r = go (eqb run 0)
  where
    go : (b : Bool) → Near (pick b (first_of kind r) (named_by (body_of kind run p k r) p))
    go true = named_near (first_fault (first_tests kind r)) _ (body_near kind 0 p k r)
    go false = named_near (body_of kind run p k r) p (body_near kind run p k r)

pub header_can : (ordinal : ℕ) (c : Codes) (long : ℕ) (b : List ℕ) → FaultCan 0 b (header_of ordinal c long b)
unfolding header_of header_tests AllCan
header_can ordinal c long b =
    can_fault 0 b (header_tests ordinal c long b) (
      other 3 0 (omega arith) (omega arith) (omega arith),
      (other 4 4 (omega arith) (omega arith) (omega arith), (other 5 8 (omega arith) (omega arith) (omega arith), tt)),
    )

pub header_near : (ordinal : ℕ) (c : Codes) (long : ℕ) (b : List ℕ) → Near (header_of ordinal c long b)
header_near ordinal c long b = near_of 0 b (header_of ordinal c long b) (header_can ordinal c long b)
