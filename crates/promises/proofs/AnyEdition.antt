-- What the rules say of a first record and of plans whatever the edition: a first record has the length of its kind, and plans with the same numbers
-- promise the same records (`same_promised`), run by run.
use Prim.Native.Nat.{ℕ, zero, suc, ◌+◌, ◌≤◌, ◌<◌}
use mathlib.Core.Path.{◌≡◌, refl, ap, ap₂, ◌∙◌}
use mathlib.Core.List.{List, [], ◌∷◌, ◌++◌}
use native.Mathlib.Omega.{arith}
use lib.ListN.{length, get_or, replicate}
use Rattle.plan.specs.Tables.{rows}
use Rattle.plan.specs.Plan.{first_length}
use Rattle.plan.specs.declared.Plan.{Plan}
use Rattle.promises.specs.Edition.{Edition}
use Rattle.promises.specs.Rules.{Kind, volume, leader, image, trailer, kind_number, Due, slot_records, facility_records, slot_due, facility_due, free}
use Rattle.promises.specs.Rules.{text_record, First, promised, Summary, Map, pointer, line_due}

-- two plans have the same numbers, so far as a file of that kind uses them
abbrev pub Same : Kind → Plan → Plan → Type 0
Same volume p q = p.pointers ≡ q.pointers
Same leader p q = (i : ℕ) → i < rows → (get_or p.counts i 0 ≡ get_or q.counts i 0) × (get_or p.lengths i 0 ≡ get_or q.lengths i 0)
Same image p q = (p.n ≡ q.n) × (p.l ≡ q.l) × (p.w ≡ q.w) × (p.d ≡ q.d) × (p.s ≡ q.s) × (p.sort ≡ q.sort)
Same trailer p q = Unit {0}

-- a plan and itself
pub same_self : (kind : Kind) (p : Plan) → Same kind p p
same_self volume p = refl
same_self leader p = λ i l. (refl, refl)
same_self image p = (refl, refl, refl, refl, refl, refl)
same_self trailer p = tt

-- a first record has the length that its kind asks for
pub first_size : (e : Edition) (kind : Kind) (q : Plan) (r : List ℕ) → First e kind r q → length r ≡ first_length (kind_number kind)
unfolding first_length
first_size e volume q r d = d.is.size
first_size e leader q r d = d.is.size
first_size e image q r d = d.is.size
first_size e trailer q r d = d.is.size

-- ---- plans with the same numbers promise the same records

join : {a b c d : List Due} → a ≡ b → c ≡ d → a ++ c ≡ b ++ d
join e f = ap₂ (λ (x y : List Due). x ++ y) e f

module _ (p q : Plan) (s : Same leader p q) where
  slot_same : (i : ℕ) (due : ℕ → Due) → i < rows → slot_records p i due ≡ slot_records q i due
  slot_same i due l = ap₂ (λ (n m : ℕ). replicate n (due m)) (s i l).0 (s i l).1

  facility_same : (i m : ℕ) → i + m ≤ rows → facility_records p i m ≡ facility_records q i m
  facility_same i zero l = refl
  facility_same i (suc m) l = join (slot_same i facility_due (omega arith)) (facility_same (suc i) m (omega arith))

  leader_same : (e : Edition) → promised e leader p ≡ promised e leader q
  leader_same e =
      join (slot_same 0 (slot_due 10 (Summary e)) (omega arith))
      (join (slot_same 1 (slot_due 20 (Map e)) (omega arith))
      (join (slot_same 2 (slot_due 30 free) (omega arith))
      (join (slot_same 3 (slot_due 40 free) (omega arith))
      (join (slot_same 4 (slot_due 50 free) (omega arith)) (join (slot_same 5 (slot_due 60 free) (omega arith)) (facility_same 6 11 (omega arith)))))))

-- the lines of an image, by the numbers that they hang on
line_of : Edition → ℕ → ℕ → ℕ → ℕ → List Due
line_of e n l w sort = replicate n (line_due e (record { pointers = 0; counts = []; lengths = []; n = n; l = l; w = w; d = 0; s = 0; sort = sort }))

-- the same in all numbers that its kind uses, the same records behind it
pub same_promised : (e : Edition) (kind : Kind) (p q : Plan) → Same kind p q → promised e kind p ≡ promised e kind q
unfolding line_of
same_promised e volume p q s = ap (λ (m : ℕ). replicate m (pointer e m) ++ (text_record ∷ [])) s
same_promised e leader p q s = leader_same p q s e
same_promised e image p q s =
    ap₂ (λ (n sort : ℕ). line_of e n p.l p.w sort) s.0 s.5 ∙ ap₂ (λ (l w : ℕ). line_of e q.n l w q.sort) s.1 s.2
same_promised e trailer p q s = refl
