-- The tests of each record's body find the first of the rules that `Refusals` writes for it: tables row by row, the image's agreements from the numbers
-- that stand before them.
use Prim.Native.Nat.{ℕ, zero, suc, ◌+◌, ◌*◌, ◌≤◌}
use mathlib.Core.Path.{◌≡◌, refl, sym, ap, ap₂, ◌∙◌, subst}
use mathlib.Core.Logic.{◌↔◌}
use mathlib.Core.List.{List, [], ◌∷◌, ◌++◌}
use mathlib.Core.Bool.{Bool, true, false, false≢true}
use native.Mathlib.Omega.{arith}
use lib.Dec.{eqb, leb}
use lib.IntN.{pos}
use lib.ListN.{length}
use lib.Seq.{slice}
use borrow.Author.Tests.{eqb-true, eq-eqb, leb-true, le-leb}
use Rattle.std.specs.Prelude.{Ok}
use Rattle.std.specs.List.{AllByRecursion}
use Rattle.words.specs.Tests.{both_of}
use Rattle.words.specs.Words.{four_at, place_of}
use Rattle.words.proofs.Laws.{both_l, both_r}
use Rattle.words.proofs.Table.{every}
use Rattle.decimal.specs.Written.{number_written}
use Rattle.decimal.specs.Text.{bytes}
use Rattle.decimal.specs.Forms.{width_of, shape_of}
use Rattle.decimal.specs.declared.Form.{Form}
use Rattle.decimal.specs.declared.Form.TheVariants.{I4, I6, I8, I16, F8d3, F16d7, E20d13}
use Rattle.decimal.specs.declared.Shape.TheVariants.{Whole}
use Rattle.fields.specs.Listed.{table}
use Rattle.fields.specs.declared.Listed.{Listed}
use Rattle.plan.specs.Tables.{slot_of, sort_of as sort_of'}
use Rattle.plan.specs.Plan.{first_length}
use Rattle.plan.specs.declared.Plan.{Plan}
use Rattle.verdicts.specs.Tests.{first_fault, text_at, each, number_of, Verdict}
use Rattle.verdicts.specs.Numbers.{Number, number_at, row_tests, numbers_tests}
use Rattle.volume.specs.Volume.{class_text, volume_numbers, volume_tests, pointer_numbers, pointer_tests, volume_record}
use Rattle.leader.specs.Leader.{pairs, count_at, slot_in, pair_tests, leader_tests, listed_tests, fields_tests, leader_record}
use Rattle.leader.specs.declared.Pair as declared
use Rattle.image.specs.Image.{sort_in, image_numbers, agree_tests, agreements, image_tests, line_tests, image_record}
use Rattle.image.proofs.ImageLaws.{sort_in_lem}
use Rattle.bodies.specs.Bodies.{trailer_tests, body_tests, body_of}
use Rattle.promises.specs.Rules.{Kind, volume, leader, image, trailer, kind_number, class_of, sort_of}
use Rattle.promises.specs.Newest.{Numbered}
use Rattle.promises.proofs.Parts.{field_reads, text_is}
use Rattle.promises.proofs.Sorts.{group_same, ahead_same, text_same, text_short, sort_is}
use Rattle.promises.proofs.BodyIs.{Long, class_text_lem, other_volume, other_leader, of_line}
use Rattle.refusals.specs.Refusals.{Rule, number, listed, pair, SaysNumber, SortIs, first_body, pointer_body, summary_body, map_body, line_body}
use Rattle.refusals.specs.Refusals.{nothing, agreement}
use Rattle.refusals.specs.Refusals as rules
use Rattle.refusals.proofs.Finds.{Finds, finds_none, finds_then, first_then, finds_each, rules_of, Alike, alike_self, alike_behind, finds_alike}
use Rattle.refusals.proofs.PartFinds.{exact, text_finds, listed_finds, number_finds, pair_finds}

-- ---- tables

-- what a computed test of each row gives
rowed : {A : Type 0} (ok : A → Bool) (P : A → Type 0) → ((x : A) → ok x ≡ true → P x) → (xs : List A) → every ok xs ≡ true → AllByRecursion P xs
rowed ok P g [] e = tt
rowed ok P g (x ∷ xs) e = (g x (both_l (ok x) (every ok xs) e), rowed ok P g xs (both_r (ok x) (every ok xs) e))

whole? : Form → Bool
whole? I4 = true
whole? I6 = true
whole? I8 = true
whole? I16 = true
whole? F8d3 = false
whole? F16d7 = false
whole? E20d13 = false

whole_is : (k : Form) → whole? k ≡ true → shape_of k ≡ Whole
unfolding whole?
whole_is I4 e = refl
whole_is I6 e = refl
whole_is I8 e = refl
whole_is I16 e = refl
whole_is F8d3 e = absurd (false≢true e)
whole_is F16d7 e = absurd (false≢true e)
whole_is E20d13 e = absurd (false≢true e)

-- a field of that form at that byte lies in the first bytes
inside? : ℕ → ℕ → Form → Bool
inside? size byte k = leb (place_of byte + width_of k) size

module _ (r : List ℕ) (size : ℕ) (long : length r ≡ size) where
  inside_is : (byte : ℕ) (k : Form) → inside? size byte k ≡ true → place_of byte + width_of k ≤ length r
  unfolding inside?
  inside_is byte k e = let h = leb-true (place_of byte + width_of k) size e in omega (arith, long)

  -- number fields
  abbrev number_rules : Number → List Rule
  number_rules x = number r x.byte x.form x.least x.most

  numbered? : Number → Bool
  numbered? x = both_of (inside? size x.byte x.form) (whole? x.form)

  numbers_find : (xs : List Number) → every numbered? xs ≡ true → Finds (first_fault (numbers_tests r xs)) (rules_of number_rules xs)
  unfolding numbers_tests numbered?
  numbers_find xs e =
      finds_each (row_tests r) number_rules xs
      (rowed numbered? (λ (x : Number). Finds (first_fault (row_tests r x)) (number_rules x))
      (λ x q.
      number_finds r x.byte x.form (inside_is x.byte x.form (both_l (inside? size x.byte x.form) _ q))
      (whole_is x.form (both_r (inside? size x.byte x.form) _ q)) x.least x.most) xs e)

  -- listed fields
  abbrev listed_rules : Listed → List Rule
  listed_rules x = listed r x.first x.form ∷ []

  listed? : Listed → Bool
  listed? x = inside? size x.first x.form

  listed_find : (xs : List Listed) → every listed? xs ≡ true → Finds (first_fault (each (listed_tests r) xs)) (rules_of listed_rules xs)
  unfolding listed?
  listed_find xs e =
      finds_each (listed_tests r) listed_rules xs
      (rowed listed? (λ (x : Listed). Finds (first_fault (listed_tests r x)) (listed_rules x))
      (λ x q. listed_finds r x.first x.form (inside_is x.first x.form q)) xs e)

  -- pairs, by the ranges of their slot
  abbrev pair_rules : declared.Pair → List Rule
  pair_rules x =
      pair r x.byte x.form (slot_in x.row).least (slot_in x.row).most (slot_in x.row).shortest (slot_in x.row).longest

  pair? : declared.Pair → Bool
  pair? x = both_of (inside? size x.byte I6) (both_of (inside? size (x.byte + 6) x.form) (whole? x.form))

  pairs_find : (xs : List declared.Pair) → every pair? xs ≡ true → Finds (first_fault (each (pair_tests r) xs)) (rules_of pair_rules xs)
  unfolding pair_tests count_at pair?
  pairs_find xs e =
      finds_each (pair_tests r) pair_rules xs
      (rowed pair? (λ (x : declared.Pair). Finds (first_fault (pair_tests r x)) (pair_rules x))
      (λ x q.
      let a = both_l (inside? size x.byte I6) _ q in
      let b = both_r (inside? size x.byte I6) _ q in
      pair_finds r x.byte x.form (inside_is x.byte I6 a)
      (inside_is (x.byte + 6) x.form (both_l (inside? size (x.byte + 6) x.form) _ b))
      (whole_is x.form (both_r (inside? size (x.byte + 6) x.form) _ b)) (slot_in x.row).least (slot_in x.row).most (slot_in x.row).shortest
      (slot_in x.row).longest) xs e)

-- ---- first records

trailer_finds : (r : List ℕ) → length r ≡ 720 → Finds (first_fault (trailer_tests r)) (first_body trailer r)
unfolding trailer_tests first_fault place_of
trailer_finds r long = text_finds r 13 "A " (Ok tt) [] (omega arith) (λ e. finds_none)

volume_finds : (r : List ℕ) → length r ≡ 360 → Finds (first_fault (volume_tests r)) (first_body volume r)
unfolding volume_tests first_fault place_of numbered? inside? whole?
volume_finds r long = text_finds r 13 "A " _ _ (omega arith) (λ e. numbers_find r 360 long volume_numbers refl)

leader_finds : (r : List ℕ) → length r ≡ 720 → Finds (first_fault (leader_tests r)) (first_body leader r)
unfolding leader_tests first_fault place_of slot_of pair? inside? whole?
leader_finds r long = text_finds r 13 "A " _ _ (omega arith) (λ e. pairs_find r 720 long pairs refl)

-- the rules of an image's number fields behind the group, from the group's range on, and all of them
abbrev later_fields : List ℕ → List Rule
later_fields r =
    number r 233 I4 1 1 ++ (number r 237 I8 1 99999999 ++ (number r 249 I8 1 99999999 ++ (number r 281 I8 1 99999999 ++ number r 289 I4 0 9999)))

abbrev fields_as : List ℕ → Type 0 → List Rule
fields_as r G = rules.rule 7 225 G ∷ later_fields r

abbrev image_fields : List ℕ → List Rule
image_fields r = number r 181 I6 1 999999 ++ (number r 187 I6 1 999999 ++ (rules.group r ++ later_fields r))

-- what a field says is the number that is read
module _ (r : List ℕ) (long : length r ≡ 720) where
  reads : (byte : ℕ) (k : Form) → place_of byte + width_of k ≤ 720 → {n : ℕ} → SaysNumber r byte k n → number_at r byte k ≡ n
  reads byte k h {n} s = ap number_of (field_reads r byte k (omega (arith, long)) (number_written (pos n) (pos 0)) s)

  -- ---- the sort that the text names is the one that is found

  sort_to : text_at r 428 (sort_of' (sort_in r)).text ≡ true → SortIs r (sort_in r)
  unfolding place_of
  sort_to e =
      record {
        known = sort_in_lem r;
        text = (text_is r 428 (bytes (sort_of (sort_in r)).text) (omega (arith, text_short (sort_in r), long))).0
            (subst (λ (t : List ℕ). text_at r 428 t ≡ true) (text_same (sort_in r) (sort_in_lem r)) e);
      }

  sort_text : (i : ℕ) → SortIs r i → text_at r 428 (sort_of' i).text ≡ true
  unfolding place_of
  sort_text i h =
      subst (λ (t : List ℕ). text_at r 428 t ≡ true) (sym (text_same i h.known))
      ((text_is r 428 (bytes (sort_of i).text) (omega (arith, text_short i, long))).1 h.text)

  sort_one : (i : ℕ) → SortIs r i → sort_in r ≡ i
  unfolding place_of
  sort_one i h = sort_is r i h.known (sort_text i h)

  sort_from : ((i : ℕ) × SortIs r i) → text_at r 428 (sort_of' (sort_in r)).text ≡ true
  sort_from (i, h) = subst (λ (j : ℕ). text_at r 428 (sort_of' j).text ≡ true) (sym (sort_one i h)) (sort_text i h)

  -- the sort's numbers, in the rules' table and in the plan's
  group_of : (i : ℕ) → SortIs r i → (sort_of' (sort_in r)).group ≡ (sort_of i).group
  group_of i h = ap (λ (j : ℕ). (sort_of' j).group) (sort_one i h) ∙ group_same i

  ahead_of : (i : ℕ) → SortIs r i → (sort_of' (sort_in r)).ahead ≡ (sort_of i).ahead
  ahead_of i h = ap (λ (j : ℕ). (sort_of' j).ahead) (sort_one i h) ∙ ahead_same i

  module _ (has : SortIs r (sort_in r)) where
    -- the bytes a group, within the sort's own range
    group_alike : ((n : ℕ) × Numbered r 225 I4 (sort_of' (sort_in r)).group (sort_of' (sort_in r)).group n)
        ↔ ((i : ℕ) × SortIs r i × Numbered r 225 I4 (sort_of i).group (sort_of i).group (sort_of i).group)
    group_alike = (
      λ (n, h).
          let e : n ≡ (sort_of (sort_in r)).group = let a = h.least in let b = h.most in omega (arith, group_of (sort_in r) has) in (
            sort_in r,
            has,
            record { says = subst (SaysNumber r 225 I4) e h.says; least = omega arith; most = omega arith },
          ),
      λ (i, s, h).
          ((sort_of i).group, record { says = h.says; least = omega (arith, group_of i s); most = omega (arith, group_of i s) }),
    )

    -- the agreements, of numbers that the fields before them say
    agree_find : (n l m w d s : ℕ) → SaysNumber r 181 I6 n → SaysNumber r 187 I6 l → SaysNumber r 237 I8 m → SaysNumber r 249 I8 w → SaysNumber r 281 I8 d
        → SaysNumber r 289 I4 s → Finds (first_fault (agreements r)) (rules.agreements r)
    unfolding agree_tests first_fault place_of
    agree_find n l m w d s hn hl hm hw hd hs =
        let j = sort_in r in
        let g = (sort_of' j).group in
        let ahead = (sort_of' j).ahead in
        let rn = reads 181 I6 (omega arith) hn in
        let rl = reads 187 I6 (omega arith) hl in
        let rm = reads 237 I8 (omega arith) hm in
        let rw' = reads 249 I8 (omega arith) hw in
        let rd = reads 281 I8 (omega arith) hd in
        let rs = reads 289 I4 (omega arith) hs in
        exact (eqb (number_at r 181 I6) (number_at r 237 I8)) _ (agreement ((n : ℕ) × SaysNumber r 181 I6 n × SaysNumber r 237 I8 n)) _ _ refl
        (λ e. (n, hn, subst (SaysNumber r 237 I8) (sym rm ∙ sym (eqb-true _ _ e) ∙ rn) hm))
        (λ h. eq-eqb _ _ (reads 181 I6 (omega arith) h.1 ∙ sym (reads 237 I8 (omega arith) h.2)))
        (λ e.
        exact (eqb (number_at r 281 I8) (g * number_at r 249 I8)) _
        (agreement ((i : ℕ) × (w : ℕ) × SortIs r i × SaysNumber r 249 I8 w × SaysNumber r 281 I8 ((sort_of i).group * w))) _ _ refl
        (λ e. (j, w, has, hw, subst (SaysNumber r 281 I8) (sym rd ∙ eqb-true _ _ e ∙ ap₂ (λ (i x : ℕ). i * x) (group_of j has) rw') hd))
        (λ (i, x, si, hx, hy). eq-eqb _ _ (reads 281 I8 (omega arith) hy ∙ ap₂ (λ (i x : ℕ). i * x) (sym (group_of i si))
        (sym (reads 249 I8 (omega arith) hx))))
        (λ e.
        exact (leb (ahead + number_at r 281 I8 + number_at r 289 I4) (number_at r 187 I6)) _
        (agreement ((i : ℕ) × (l : ℕ) × (d : ℕ) × (s : ℕ) × SortIs r i × SaysNumber r 187 I6 l × SaysNumber r 281 I8 d × SaysNumber r 289 I4 s
        × ((sort_of i).ahead + d + s ≤ l))) _ _ refl
        (λ e.
        let h = leb-true (ahead + number_at r 281 I8 + number_at r 289 I4) (number_at r 187 I6) e in
        (j, l, d, s, has, hl, hd, hs, omega (arith, rl, rd, rs, ahead_of j has, h)))
        (λ (i, l', d', s', si, a', b', c', room).
        let a = reads 187 I6 (omega arith) a' in
        let b = reads 281 I8 (omega arith) b' in
        let c = reads 289 I4 (omega arith) c' in
        le-leb (ahead + number_at r 281 I8 + number_at r 289 I4) (number_at r 187 I6) (omega (arith, a, b, c, room, ahead_of i si)))
        (λ e. finds_none)))

    -- the group that the sort asks for, in the words of the rules
    abbrev g : ℕ
    g = (sort_of' (sort_in r)).group

    abbrev sorted_group : Type 0
    sorted_group = (i : ℕ) × SortIs r i × Numbered r 225 I4 (sort_of i).group (sort_of i).group (sort_of i).group

    -- the number fields' rules, the group's by the sort
    numbers_alike : Alike (rules_of (number_rules r 720 long) (image_numbers (sort_in r))) (image_fields r)
    numbers_alike =
        let behind : Alike (fields_as r (((n : ℕ) × Numbered r 225 I4 g g n))) (fields_as r sorted_group) =
        ((group_alike, refl, refl), alike_self (later_fields r)) in
        alike_behind (number r 181 I6 1 999999 ++ (number r 187 I6 1 999999 ++ (rules.unread r 225 I4 (rules.SomeNumber r 225 I4) ∷ [])))
        (fields_as r ((n : ℕ) × Numbered r 225 I4 g g n)) (fields_as r sorted_group) behind

    fields_find : Finds (first_fault (numbers_tests r (image_numbers (sort_in r)) ++ agreements r)) (image_fields r ++ rules.agreements r)
    unfolding place_of numbered? inside? whole?
    fields_find =
        let js = image_numbers (sort_in r) in
        let f = finds_alike (rules_of (number_rules r 720 long) js) (image_fields r) numbers_alike (numbers_find r 720 long js refl) in
        subst (λ (v : Verdict). Finds v (image_fields r ++ rules.agreements r)) (sym (first_then (numbers_tests r js) (agreements r)))
        (finds_then (first_fault (numbers_tests r js)) (first_fault (agreements r)) (image_fields r) (rules.agreements r) f
        (λ q.
        let h = f.fine q in
        let h1 = h.1.1 in
        let h4 = h1.1.1.1.1.1.1 in
        let h5 = h4.1.1 in
        let h6 = h5.1.1 in
        let h7 = h6.1.1 in
        agree_find h.1.0.0 h1.1.0.0 h4.1.0.0 h5.1.0.0 h6.1.0.0 h7.1.0.0 h.1.0.1.says h1.1.0.1.says
        h4.1.0.1.says h5.1.0.1.says h6.1.0.1.says h7.1.0.1.says))

  image_finds : Finds (first_fault (image_tests r)) (first_body image r)
  unfolding image_tests first_fault place_of
  image_finds =
      text_finds r 13 "A " _ _ (omega arith)
      (λ e.
      exact (text_at r 428 (sort_of' (sort_in r)).text) _ (rules.rule 8 429 ((i : ℕ) × SortIs r i)) _ _ refl (λ e. (sort_in r, sort_to e)) sort_from
      (λ e. fields_find (sort_to e)))

-- ---- the records behind the first

pointer_finds : (m k : ℕ) (r : List ℕ) → length r ≡ 360 → Finds (first_fault (pointer_tests m k r)) (pointer_body m k r)
unfolding pointer_tests first_fault place_of numbered? inside? whole?
pointer_finds m k r long =
    let c = class_text_lem m k r long in
    exact (text_at r 64 (class_text m k)) _ (rules.text r 65 (class_of m k)) _ _ refl c.0 c.1 (λ e. numbers_find r 360 long pointer_numbers refl)

summary_finds : (k : ℕ) (r : List ℕ) → length r ≡ 4096 → Finds (first_fault (fields_tests r 0 10)) (summary_body k r)
unfolding fields_tests listed? inside? place_of
summary_finds k r long = listed_find r 4096 long (slice 0 10 table) refl

map_finds : (k : ℕ) (r : List ℕ) → length r ≡ 1620 → Finds (first_fault (fields_tests r 10 13)) (map_body k r)
unfolding fields_tests listed? inside? place_of
map_finds k r long = listed_find r 1620 long (slice 10 13 table) refl

line_finds : (w k : ℕ) (r : List ℕ) → Finds (first_fault (line_tests w k r)) (line_body w k r)
unfolding line_tests first_fault
line_finds w k r =
    exact (eqb (four_at r (place_of 13)) k) _ (rules.rule 10 13 (four_at r (place_of 13) ≡ k)) _ _ refl (eqb-true _ _) (eq-eqb _ _)
    (λ e.
    exact (eqb (four_at r (place_of 17)) 1) _ (rules.rule 10 17 (four_at r (place_of 17) ≡ 1)) _ _ refl (eqb-true _ _) (eq-eqb _ _)
    (λ e.
    exact (eqb (four_at r (place_of 21) + four_at r (place_of 25) + four_at r (place_of 29)) w) _
    (rules.rule 10 21 (four_at r (place_of 21) + four_at r (place_of 25) + four_at r (place_of 29) ≡ w)) _ _ refl (eqb-true _ _) (eq-eqb _ _)
    (λ e. finds_none)))

-- ---- each kind and run

-- the rules of a record's body, by its run behind the first
abbrev pub body_by : Kind → Plan → ℕ → ℕ → List ℕ → List Rule
body_by volume p zero = nothing
body_by volume p (suc zero) = pointer_body p.pointers
body_by volume p (suc (suc i)) = nothing
body_by leader p zero = nothing
body_by leader p (suc zero) = summary_body
body_by leader p (suc (suc zero)) = map_body
body_by leader p (suc (suc (suc i))) = nothing
body_by image p run = line_body p.w
body_by trailer p run = nothing

fine_finds : {v : Verdict} → v ≡ Ok tt → Finds v []
fine_finds e = subst (λ (v : Verdict). Finds v []) (sym e) finds_none

-- a record of a run whose fields lie in it
pub body_finds : (kind : Kind) (p : Plan) (run k : ℕ) (r : List ℕ) → Long kind run (length r)
    → Finds (body_of (kind_number kind) run p k r) (body_by kind p run k r)
unfolding body_of body_tests volume_record leader_record image_record
body_finds volume p zero k r h = absurd h
body_finds volume p (suc zero) k r h = pointer_finds p.pointers k r h
body_finds volume p (suc (suc i)) k r h = fine_finds (other_volume p i k r)
body_finds leader p zero k r h = absurd h
body_finds leader p (suc zero) k r h = summary_finds k r h
body_finds leader p (suc (suc zero)) k r h = map_finds k r h
body_finds leader p (suc (suc (suc i))) k r h = fine_finds (other_leader p i k r)
body_finds image p zero k r h = absurd h
body_finds image p (suc i) k r h = subst (λ (v : Verdict). Finds v (line_body p.w k r)) (sym (of_line p i k r)) (line_finds p.w k r)
body_finds trailer p run k r h = absurd h

-- a first record of the kind's length
pub first_finds : (kind : Kind) (p : Plan) (k : ℕ) (r : List ℕ) → length r ≡ first_length (kind_number kind)
    → Finds (body_of (kind_number kind) 0 p k r) (first_body kind r)
unfolding body_of body_tests volume_record leader_record image_record first_length
first_finds volume p k r h = volume_finds r h
first_finds leader p k r h = leader_finds r h
first_finds image p k r h = image_finds r h
first_finds trailer p k r h = trailer_finds r h
