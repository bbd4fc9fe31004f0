-- The body of a record behind the first has no fault exactly where it holds what `Rules` asks of it: pointer, summary, map and line, test by test; of
-- the others nothing is asked.
use Prim.Native.Nat.{ℕ, zero, suc, ◌+◌, ◌*◌}
use mathlib.Core.Path.{◌≡◌, refl, sym, ap, ◌∙◌}
use mathlib.Core.List.{List}
use mathlib.Core.Bool.{Bool, true, false}
use mathlib.Core.Logic.{◌↔◌}
use native.Mathlib.Omega.{arith}
use lib.Dec.{eqb}
use lib.ListN.{length, take, drop}
use borrow.Author.Tests.{eqb-true, eq-eqb, ne_eqb}
use Rattle.std.specs.Prelude.{Ok}
use Rattle.words.specs.Tests.{pick}
use Rattle.words.specs.Words.{place_of}
use Rattle.decimal.specs.Text.{bytes}
use Rattle.decimal.specs.declared.Form.TheVariants.{I8, I16, F8d3, F16d7, E20d13}
use Rattle.plan.specs.declared.Plan.{Plan}
use Rattle.verdicts.specs.Tests.{first_fault, text_at}
use Rattle.verdicts.specs.Numbers.{at, last_of, number_at, numbers_tests}
use Rattle.volume.specs.Volume.{class_text, pointer_tests, volume_record}
use Rattle.leader.specs.Leader.{fields_tests, leader_record}
use Rattle.image.specs.Image.{line_tests, image_record}
use Rattle.bodies.specs.Bodies.{body_of, body_tests}
use Rattle.verdicts.proofs.Holding.{Holds, fine_holds, holds_fine, number_holds}
use Rattle.promises.specs.Rules.{Kind, volume, leader, image, trailer, kind_number, class_of, Line, free}
use Rattle.promises.specs.Newest.{Readable, Pointer, Summary, Map}
use Rattle.promises.proofs.Each.{each_at, next}
use Rattle.promises.proofs.Parts.{text_is, number_is, readable_is}

-- ---- pointers

class_is : (m k : ℕ) → (class_text m k ≡ bytes (class_of m k)) × (length (bytes (class_of m k)) ≡ 4)
unfolding class_text
class_is m k = go (eqb k 1) (eqb k m)
  where
    go : (a b : Bool)
        → (pick a (bytes "SARL") (pick b (bytes "SART") (bytes "IMOP")) ≡ bytes (pick a "SARL" (pick b "SART" "IMOP")))
        × (length (bytes (pick a "SARL" (pick b "SART" "IMOP"))) ≡ 4)
    go true b = (refl, refl)
    go false true = (refl, refl)
    go false false = (refl, refl)

module _ (m k : ℕ) (r : List ℕ) (size : length r ≡ 360) where
  pub class_text_lem : (text_at r (place_of 65) (class_text m k) ≡ true) ↔ (take (length (bytes (class_of m k))) (drop (place_of 65) r) ≡ bytes (class_of m k))
  unfolding place_of
  class_text_lem =
      let c = class_is m k in
      let i = text_is r 64 (bytes (class_of m k)) (omega (arith, c.1)) in
      (λ e. i.0 (ap (text_at r 64) (sym c.0) ∙ e), λ e. ap (text_at r 64) c.0 ∙ i.1 e)

  pointer_is : Holds (pointer_tests m k r) ↔ Pointer m k r
  unfolding pointer_tests numbers_tests place_of
  pointer_is = (
    λ h.
        let first : number_at r 109 I8 ≡ 720 = let b = number_holds (at r 109 I8) (place_of 109) (last_of 109 I8) 720 720 h.1.1.1 in omega arith in
        record {
          class = class_text_lem.0 h.0;
          counted = (number_at r 101 I8, (number_is r 101 I8 (omega arith) refl 1 99999999 (number_at r 101 I8)).0 ((h.1.0, (h.1.1.0, tt)), refl));
          first = (number_is r 109 I8 (omega arith) refl 720 720 720).0 (h.1.1.1, first);
        },
    λ p.
        let a = ((number_is r 101 I8 (omega arith) refl 1 99999999 p.counted.0).1 p.counted.1).0 in
        let b = ((number_is r 109 I8 (omega arith) refl 720 720 720).1 p.first).0 in
        (class_text_lem.1 p.class, (a.0, (a.1.0, b))),
  )

-- ---- summary and map

summary_is : (k : ℕ) (r : List ℕ) → length r ≡ 4096 → Holds (fields_tests r 0 10) ↔ Summary k r
unfolding fields_tests place_of
summary_is k r size = (
  λ h.
      record {
        one = (readable_is r 477 F8d3 (omega arith)).0 h.0;
        two = (readable_is r 711 F16d7 (omega arith)).0 h.1.0;
        three = (readable_is r 743 F16d7 (omega arith)).0 h.1.1.0;
        four = (readable_is r 935 F16d7 (omega arith)).0 h.1.1.1.0;
        six = λ i l.
            each_at (λ (i : ℕ). Readable r (1887 + 20 * i) E20d13) 0 6
            (next ((readable_is r 1887 E20d13 (omega arith)).0 h.1.1.1.1.0)
            (next ((readable_is r 1907 E20d13 (omega arith)).0 h.1.1.1.1.1.0)
            (next ((readable_is r 1927 E20d13 (omega arith)).0 h.1.1.1.1.1.1.0)
            (next ((readable_is r 1947 E20d13 (omega arith)).0 h.1.1.1.1.1.1.1.0)
            (next ((readable_is r 1967 E20d13 (omega arith)).0 h.1.1.1.1.1.1.1.1.0)
            (next ((readable_is r 1987 E20d13 (omega arith)).0 h.1.1.1.1.1.1.1.1.1.0) tt))))))
            i (omega arith) (omega arith);
      },
  λ s.
      next ((readable_is r 477 F8d3 (omega arith)).1 s.one)
      (next ((readable_is r 711 F16d7 (omega arith)).1 s.two)
      (next ((readable_is r 743 F16d7 (omega arith)).1 s.three)
      (next ((readable_is r 935 F16d7 (omega arith)).1 s.four)
      (next ((readable_is r 1887 E20d13 (omega arith)).1 (s.six 0 (omega arith)))
      (next ((readable_is r 1907 E20d13 (omega arith)).1 (s.six 1 (omega arith)))
      (next ((readable_is r 1927 E20d13 (omega arith)).1 (s.six 2 (omega arith)))
      (next ((readable_is r 1947 E20d13 (omega arith)).1 (s.six 3 (omega arith)))
      (next ((readable_is r 1967 E20d13 (omega arith)).1 (s.six 4 (omega arith)))
      (next ((readable_is r 1987 E20d13 (omega arith)).1 (s.six 5 (omega arith))) tt))))))))),
)

map_is : (k : ℕ) (r : List ℕ) → length r ≡ 1620 → Holds (fields_tests r 10 13) ↔ Map k r
unfolding fields_tests place_of
map_is k r size = (
  λ h.
      record {
        eleven = (readable_is r 61 I16 (omega arith)).0 h.0;
        twelve = (readable_is r 77 I16 (omega arith)).0 h.1.0;
        thirteen = (readable_is r 93 F16d7 (omega arith)).0 h.1.1.0;
      },
  λ m. (
    (readable_is r 61 I16 (omega arith)).1 m.eleven,
    ((readable_is r 77 I16 (omega arith)).1 m.twelve, ((readable_is r 93 F16d7 (omega arith)).1 m.thirteen, tt)),
  ),
)

-- ---- lines

line_is : (w k : ℕ) (r : List ℕ) → Holds (line_tests w k r) ↔ Line w k r
unfolding line_tests
line_is w k r = (
  λ h. record { number = eqb-true _ _ h.0; index = eqb-true _ _ h.1.0; fills = eqb-true _ _ h.1.1.0 },
  λ l. (eq-eqb _ _ l.number, (eq-eqb _ _ l.index, (eq-eqb _ _ l.fills, tt))),
)

-- ---- each kind and run

-- what a record of a run holds
abbrev pub holds_of : Kind → Plan → ℕ → ℕ → List ℕ → Type 0
holds_of volume p zero = free
holds_of volume p (suc zero) = Pointer p.pointers
holds_of volume p (suc (suc i)) = free
holds_of leader p zero = free
holds_of leader p (suc zero) = Summary
holds_of leader p (suc (suc zero)) = Map
holds_of leader p (suc (suc (suc i))) = free
holds_of image p run = Line p.w
holds_of trailer p run = free

-- the runs behind the first record whose records have a due length that their fields need
abbrev pub Long : Kind → ℕ → ℕ → Type 0
Long volume zero l = ⊥
Long volume (suc zero) l = l ≡ 360
Long volume (suc (suc i)) l = Unit {0}
Long leader zero l = ⊥
Long leader (suc zero) l = l ≡ 4096
Long leader (suc (suc zero)) l = l ≡ 1620
Long leader (suc (suc (suc i))) l = Unit {0}
Long image zero l = ⊥
Long image (suc i) l = Unit {0}
Long trailer run l = ⊥

module _ (p : Plan) (i k : ℕ) (r : List ℕ) where
  pub other_volume : body_of 1 (suc (suc i)) p k r ≡ Ok tt
  unfolding body_of body_tests volume_record first_fault
  other_volume = simp (ne_eqb (suc (suc i)) 0 (omega arith), ne_eqb (suc (suc i)) 1 (omega arith))

  pub other_leader : body_of 2 (suc (suc (suc i))) p k r ≡ Ok tt
  unfolding body_of body_tests leader_record first_fault
  other_leader = simp (ne_eqb (suc (suc (suc i))) 0 (omega arith), ne_eqb (suc (suc (suc i))) 1 (omega arith), ne_eqb (suc (suc (suc i))) 2 (omega arith))

  pub of_line : body_of 3 (suc i) p k r ≡ first_fault (line_tests p.w k r)
  unfolding body_of body_tests image_record
  of_line = simp (ne_eqb (suc i) 0 (omega arith))

pub body_is : (kind : Kind) (p : Plan) (run k : ℕ) (r : List ℕ) → Long kind run (length r)
    → (body_of (kind_number kind) run p k r ≡ Ok tt) ↔ holds_of kind p run k r
unfolding body_of body_tests volume_record leader_record image_record first_fault
body_is volume p zero k r h = absurd h
body_is volume p (suc zero) k r h = (
  λ e. (pointer_is p.pointers k r h).0 (fine_holds (pointer_tests p.pointers k r) e),
  λ q. holds_fine (pointer_tests p.pointers k r) ((pointer_is p.pointers k r h).1 q),
)
body_is volume p (suc (suc i)) k r h = (λ e. tt, λ q. other_volume p i k r)
body_is leader p zero k r h = absurd h
body_is leader p (suc zero) k r h = (
  λ e. (summary_is k r h).0 (fine_holds (fields_tests r 0 10) e),
  λ q. holds_fine (fields_tests r 0 10) ((summary_is k r h).1 q),
)
body_is leader p (suc (suc zero)) k r h = (
  λ e. (map_is k r h).0 (fine_holds (fields_tests r 10 13) e),
  λ q. holds_fine (fields_tests r 10 13) ((map_is k r h).1 q),
)
body_is leader p (suc (suc (suc i))) k r h = (λ e. tt, λ q. other_leader p i k r)
body_is image p zero k r h = absurd h
body_is image p (suc i) k r h = (
  λ e. (line_is p.w k r).0 (fine_holds (line_tests p.w k r) (sym (of_line p i k r) ∙ e)),
  λ q. of_line p i k r ∙ holds_fine (line_tests p.w k r) ((line_is p.w k r).1 q),
)
body_is trailer p run k r h = absurd h
