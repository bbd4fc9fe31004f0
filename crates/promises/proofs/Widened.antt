-- `wider`: an edition that allows more accepts every file that a narrower one accepts, with the same plan. Each rule of the narrower edition gives the wider
-- one's, record by record; the records behind the first are the same, one by one.
use Prim.Native.Nat.{ℕ, zero, suc, ◌+◌, ◌*◌}
use mathlib.Core.Path.{◌≡◌, refl, ap, ◌∙◌, subst}
use mathlib.Core.List.{List, [], ◌∷◌, ◌++◌}
use native.Mathlib.Omega.{arith}
use lib.ListN.{get_or, replicate}
use lib.IntN.{pos}
use Rattle.words.specs.Words.{place_of}
use Rattle.decimal.specs.Written.{Written, number_written, blank as blank_written}
use Rattle.decimal.specs.declared.Form.{Form}
use Rattle.decimal.specs.declared.Form.TheVariants.{I6, I16, F8d3, F16d7, E20d13}
use Rattle.decimal.proofs.Wider as grammar
use Rattle.fields.specs.Field.{field_bytes}
use Rattle.plan.specs.declared.Plan.{Plan}
use Rattle.promises.specs.Edition.{Edition, base, newest, Wider}
use Rattle.promises.specs.Rules.{Kind, volume, leader, image, trailer, Due, Record, Follow}
use Rattle.promises.specs.Rules.{text_record, slot_records, facility_records, slot_due}
use Rattle.promises.specs.Rules.{free, Says, Numbered, Readable, Pair, blank, none, some, Pointer, Summary, Map}
use Rattle.promises.specs.Rules.{First, promised, Accepted, pointer}
use Rattle.promises.specs.Newest as now

-- ---- records that are due, one by one

-- what d asks for is all that d' does
record Gives (d d' : Due) : Type 0 where
  codes : (r : List ℕ) → d.Codes r → d'.Codes r
  long : d.long ≡ d'.long
  holds : (k : ℕ) (r : List ℕ) → d.Holds k r → d'.Holds k r

same : (d : Due) → Gives d d
same d = record { codes = λ r c. c; long = refl; holds = λ k r h. h }

abbrev Each : List Due → List Due → Type 0
Each [] [] = Unit {0}
Each [] (d ∷ ds) = ⊥
Each (d ∷ ds) [] = ⊥
Each (d ∷ ds) (d' ∷ ds') = Gives d d' × Each ds ds'

each_same : (n : ℕ) (d d' : Due) → Gives d d' → Each (replicate n d) (replicate n d')
each_same zero d d' g = tt
each_same (suc n) d d' g = (g, each_same n d d' g)

each_join : (xs bs cs ds : List Due) → Each xs bs → Each cs ds → Each (xs ++ cs) (bs ++ ds)
each_join [] [] cs ds a c = c
each_join [] (b ∷ bs) cs ds a c = absurd a
each_join (x ∷ xs) [] cs ds a c = absurd a
each_join (x ∷ xs) (b ∷ bs) cs ds a c = (a.0, each_join xs bs cs ds a.1 c)

each_self : (ds : List Due) → Each ds ds
each_self [] = tt
each_self (d ∷ ds) = (same d, each_self ds)

follow_each : (k : ℕ) (ds es : List Due) (rs : List (List ℕ)) → Each ds es → Follow k ds rs → Follow k es rs
follow_each k [] [] rs e f = f
follow_each k [] (d ∷ es) rs e f = absurd e
follow_each k (d ∷ ds) [] rs e f = absurd e
follow_each k (d ∷ ds) (d' ∷ es) [] e f = absurd f
follow_each k (d ∷ ds) (d' ∷ es) (r ∷ rs) (g, e) ((is, h), f) = (
  (
    subst (λ (n : ℕ). Record (suc k) d'.Codes n r) g.long
        (record { size = is.size; sequence = is.sequence; codes = g.codes r is.codes; says = is.says }),
    g.holds k r h,
  ),
  follow_each (suc k) ds es rs e f,
)

-- a leader's records of which nothing is read beyond the header
abbrev unread : Plan → List Due
unread p =
    slot_records p 2 (slot_due 30 free)
    ++ (slot_records p 3 (slot_due 40 free) ++ (slot_records p 4 (slot_due 50 free) ++ (slot_records p 5 (slot_due 60 free) ++ facility_records p 6 11)))

module _ (e f : Edition) (w : Wider e f) where
  -- ---- fields

  -- what a field says by the narrower edition it says by the wider one
  pub says : (r : List ℕ) (byte : ℕ) (k : Form) (x : Written) → Says e r byte k x → Says f r byte k x
  says r byte k x s = grammar.wider e.gaps f.gaps w.gaps k (field_bytes r (place_of byte) k) x s

  readable : (r : List ℕ) (byte : ℕ) (k : Form) → Readable e r byte k → Readable f r byte k
  readable r byte k x = (x.0, says r byte k x.0 x.1)

  numbered : {r : List ℕ} {byte : ℕ} {k : Form} {lo hi n : ℕ} → Numbered e r byte k lo hi n → Numbered f r byte k lo hi n
  numbered {r} {byte} {k} {n = n} x = record { says = says r byte k (number_written (pos n) (pos 0)) x.says; least = x.least; most = x.most }

  paired : {r : List ℕ} {byte : ℕ} {k : Form} {least most shortest longest count long : ℕ} → Pair e r byte k least most shortest longest count long
      → Pair f r byte k least most shortest longest count long
  paired {r} {byte} (blank s h) = blank (says r byte I6 blank_written s) h
  paired (none n) = none (numbered n)
  paired (some n l) = some (numbered n) (numbered l)

  -- ---- records

  pointed : (m k : ℕ) (r : List ℕ) → Pointer e m k r → Pointer f m k r
  pointed m k r x = record { class = x.class; counted = (x.counted.0, numbered x.counted.1); first = numbered x.first }

  summed : (k : ℕ) (r : List ℕ) → Summary e k r → Summary f k r
  summed k r x =
      record {
        one = readable r 477 F8d3 x.one;
        two = readable r 711 F16d7 x.two;
        three = readable r 743 F16d7 x.three;
        four = readable r 935 F16d7 x.four;
        six = λ i h. readable r (1887 + 20 * i) E20d13 (x.six i h);
      }

  mapped : (k : ℕ) (r : List ℕ) → Map e k r → Map f k r
  mapped k r x =
      record { eleven = readable r 61 I16 x.eleven; twelve = readable r 77 I16 x.twelve; thirteen = readable r 93 F16d7 x.thirteen }

  -- the first record of a kind
  first : (kind : Kind) (r : List ℕ) (p : Plan) → First e kind r p → First f kind r p
  first volume r p d = record { is = d.is; ab = d.ab; pointers = numbered d.pointers }
  first leader r p d =
      record {
        is = d.is;
        ab = d.ab;
        slot1 = paired d.slot1;
        slot2 = paired d.slot2;
        slot3 = paired d.slot3;
        slot4 = paired d.slot4;
        slot5 = paired d.slot5;
        slot6 = paired d.slot6;
        slot7 = paired d.slot7;
        slot8to15 = λ i a b. paired (d.slot8to15 i a b);
        facilities = λ i a. paired (d.facilities i a);
      }
  first image r p d =
      record {
        is = d.is;
        ab = d.ab;
        known = let a = d.known in let b = w.sorts in omega arith;
        sort = d.sort;
        n = numbered d.n;
        L = numbered d.L;
        group = numbered d.group;
        channels = numbered d.channels;
        lines = numbered d.lines;
        w = numbered d.w;
        d = numbered d.d;
        s = numbered d.s;
        paired = d.paired;
        room = d.room;
      }
  first trailer r p d = d

  -- what follows it
  later : (kind : Kind) (p : Plan) → Each (promised e kind p) (promised f kind p)
  later volume p =
      each_join (replicate p.pointers (pointer e p.pointers)) (replicate p.pointers (pointer f p.pointers)) (text_record ∷ []) (text_record ∷ [])
      (each_same p.pointers (pointer e p.pointers) (pointer f p.pointers)
      (record { codes = λ r c. c; long = refl; holds = pointed p.pointers }))
      (each_self (text_record ∷ []))
  later leader p =
      let l₀ = get_or p.lengths 0 0 in
      let l₁ = get_or p.lengths 1 0 in
      let maps = slot_records p 1 (slot_due 20 (Map e)) in
      let maps' = slot_records p 1 (slot_due 20 (Map f)) in
      each_join (slot_records p 0 (slot_due 10 (Summary e))) (slot_records p 0 (slot_due 10 (Summary f))) (maps ++ unread p) (maps' ++ unread p)
      (each_same (get_or p.counts 0 0) (slot_due 10 (Summary e) l₀) (slot_due 10 (Summary f) l₀) (record { codes = λ r c. c; long = refl; holds = summed }))
      (each_join maps maps' (unread p) (unread p)
      (each_same (get_or p.counts 1 0) (slot_due 20 (Map e) l₁) (slot_due 20 (Map f) l₁) (record { codes = λ r c. c; long = refl; holds = mapped }))
      (each_self (unread p)))
  later image p = each_self (promised f image p)
  later trailer p = tt

  pub wider : (kind : Kind) (bs : List ℕ) (a : Accepted e kind bs) → (b : Accepted f kind bs) × (b.plan ≡ a.plan)
  wider kind bs a = (
    record {
      plan = a.plan;
      first = a.first;
      rest = a.rest;
      are = a.are;
      begins = first kind a.first a.plan a.begins;
      follows = follow_each 1 (promised e kind a.plan) (promised f kind a.plan) a.rest (later kind a.plan) a.follows;
    },
    refl,
  )

-- every image of counts that document 01's rules accept is accepted, with the same plan and sort 0
pub counts_stay : (bs : List ℕ) (a : Accepted base image bs) → (b : now.Accepted image bs) × (b.plan ≡ a.plan) × (b.plan.sort ≡ 0)
counts_stay bs a =
    let b = wider base newest (record { sorts = omega arith; gaps = λ q. refl }) image bs a in
    let none : a.plan.sort ≡ 0 = let h = a.begins.known in omega arith in
    (b.0, b.1, ap (λ (p : Plan). p.sort) b.1 ∙ none)
