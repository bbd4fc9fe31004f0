-- An image's first record without a fault is exactly the descriptor that `Rules` describes, for the plan whose numbers it says: header, texts, eight
-- numbers and three agreements, test by test.
use Prim.Native.Nat.{ℕ, ◌+◌, ◌*◌, ◌≤◌}
use mathlib.Core.Path.{◌≡◌, refl, sym, ◌∙◌, ap, ap₂, subst}
use mathlib.Core.List.{List}
use mathlib.Core.Logic.{◌↔◌}
use native.Mathlib.Omega.{arith}
use lib.ListN.{length}
use borrow.Author.Tests.{eqb-true, eq-eqb, leb-true, le-leb}
use Rattle.std.specs.Prelude.{Ok}
use Rattle.words.specs.Words.{place_of}
use Rattle.decimal.specs.Text.{bytes}
use Rattle.decimal.specs.declared.Form.TheVariants.{I4, I6, I8}
use Rattle.plan.specs.Tables.{other_codes, sort_of as sort_of'}
use Rattle.plan.specs.Plan.{first_codes}
use Rattle.plan.specs.declared.Plan.{Plan}
use mathlib.Core.Bool.{true}
use Rattle.verdicts.specs.Tests.{text_at}
use Rattle.verdicts.specs.Numbers.{at, last_of, number, number_at, row_tests, numbers_tests}
use Rattle.image.specs.Image.{sort_in, image_numbers, agree_tests, agreements, image_tests, image_record}
use Rattle.bodies.specs.Bodies.{body_of, body_tests}
use Rattle.verdicts.proofs.Holding.{Holds, fine_holds, holds_fine, holds_split, holds_join, each_holds, number_holds}
use Rattle.headers.specs.Header.{header_of}
use Rattle.image.proofs.ImageLaws.{sort_in_lem}
use Rattle.promises.specs.Rules.{sort_of}
use Rattle.promises.specs.Newest.{ImageDescriptor}
use Rattle.promises.proofs.Each.{next}
use Rattle.promises.proofs.Sorts.{group_same, ahead_same, text_same, text_short, sort_is}
use Rattle.promises.proofs.Parts.{text_is, header_is, number_is}

-- the plan's numbers that the record says
pub record Named (r : List ℕ) (q : Plan) : Type 0 where
  pub n : number_at r 181 I6 ≡ q.n
  pub l : number_at r 187 I6 ≡ q.l
  pub w : number_at r 249 I8 ≡ q.w
  pub d : number_at r 281 I8 ≡ q.d
  pub s : number_at r 289 I4 ≡ q.s
  pub sort : sort_in r ≡ q.sort

module _ (q : Plan) (r : List ℕ) (size : length r ≡ 720) where
  numbers_to : Holds (image_tests r) → header_of 1 (first_codes 3) 720 r ≡ Ok tt → Named r q → ImageDescriptor r q
  unfolding image_tests numbers_tests agree_tests first_codes other_codes place_of
  numbers_to h e m =
      let b = holds_split (numbers_tests r (image_numbers (sort_in r))) (agreements r) h.1.1 in
      let row = each_holds (row_tests r) (number 0 I4 0 0) (image_numbers (sort_in r)) b.0 in
      let g = (sort_of q.sort).group in
      let known : q.sort ≤ 1 = subst (λ (i : ℕ). i ≤ 1) m.sort (sort_in_lem r) in
      let same-group : (sort_of' (sort_in r)).group ≡ g = ap (λ (i : ℕ). (sort_of' i).group) m.sort ∙ group_same q.sort in
      let same_ahead : (sort_of' (sort_in r)).ahead ≡ (sort_of q.sort).ahead = ap (λ (i : ℕ). (sort_of' i).ahead) m.sort ∙ ahead_same q.sort in
      let same_text : (sort_of' (sort_in r)).text ≡ bytes (sort_of q.sort).text = ap (λ (i : ℕ). (sort_of' i).text) m.sort ∙ text_same q.sort known in
      let grouped = subst (λ (i : ℕ). Holds (row_tests r (number 225 I4 i i))) same-group (row 2 (omega arith)) in
      let lines : number_at r 181 I6 ≡ number_at r 237 I8 = eqb-true _ _ b.1.0 in
      let paired : number_at r 281 I8 ≡ g * number_at r 249 I8 = eqb-true _ _ b.1.1.0 ∙ ap (λ (i : ℕ). i * number_at r 249 I8) same-group in
      let room : (sort_of' (sort_in r)).ahead + number_at r 281 I8 + number_at r 289 I4 ≤ number_at r 187 I6 = leb-true _ _ b.1.1.1.0 in
      let channels : number_at r 233 I4 ≡ 1 = let c = number_holds (at r 233 I4) (place_of 233) (last_of 233 I4) 1 1 (row 3 (omega arith)) in omega arith in
      let group : number_at r 225 I4 ≡ g = let c = number_holds (at r 225 I4) (place_of 225) (last_of 225 I4) g g grouped in omega arith in
      record {
        is = (header_is 1 (first_codes 3) 720 r size).0 e;
        ab = (text_is r 12 (bytes "A ") (omega arith)).0 h.0;
        known = known;
        sort = (text_is r 428 (bytes (sort_of q.sort).text) (omega (arith, text_short q.sort))).0
            (subst (λ (t : List ℕ). text_at r 428 t ≡ true) same_text h.1.0);
        n = (number_is r 181 I6 (omega arith) refl 1 999999 q.n).0 (row 0 (omega arith), m.n);
        L = (number_is r 187 I6 (omega arith) refl 1 999999 q.l).0 (row 1 (omega arith), m.l);
        group = (number_is r 225 I4 (omega arith) refl g g g).0 (grouped, group);
        channels = (number_is r 233 I4 (omega arith) refl 1 1 1).0 (row 3 (omega arith), channels);
        lines = (number_is r 237 I8 (omega arith) refl 1 99999999 q.n).0 (row 4 (omega arith), sym lines ∙ m.n);
        w = (number_is r 249 I8 (omega arith) refl 1 99999999 q.w).0 (row 5 (omega arith), m.w);
        d = (number_is r 281 I8 (omega arith) refl 1 99999999 q.d).0 (row 6 (omega arith), m.d);
        s = (number_is r 289 I4 (omega arith) refl 0 9999 q.s).0 (row 7 (omega arith), m.s);
        paired = sym m.d ∙ paired ∙ ap (λ (x : ℕ). g * x) m.w;
        room = let a = m.d in let b = m.s in let c = m.l in omega (arith, same_ahead, room);
      }

  numbers_from : ImageDescriptor r q → Holds (image_tests r) × Named r q
  unfolding image_tests numbers_tests agree_tests place_of
  numbers_from d =
      let g = (sort_of q.sort).group in
      let same_text = text_same q.sort d.known in
      let text : text_at r 428 (sort_of' q.sort).text ≡ true =
      subst (λ (t : List ℕ). text_at r 428 t ≡ true) (sym same_text) ((text_is r 428 (bytes (sort_of q.sort).text) (omega (arith, text_short q.sort))).1
      d.sort) in
      let sort : sort_in r ≡ q.sort = sort_is r q.sort d.known text in
      let same-group : (sort_of' (sort_in r)).group ≡ g = ap (λ (i : ℕ). (sort_of' i).group) sort ∙ group_same q.sort in
      let same_ahead : (sort_of' (sort_in r)).ahead ≡ (sort_of q.sort).ahead = ap (λ (i : ℕ). (sort_of' i).ahead) sort ∙ ahead_same q.sort in
      let n1 = (number_is r 181 I6 (omega arith) refl 1 999999 q.n).1 d.n in
      let n2 = (number_is r 187 I6 (omega arith) refl 1 999999 q.l).1 d.L in
      let n3 = subst (λ (i : ℕ). Holds (row_tests r (number 225 I4 i i))) (sym same-group) ((number_is r 225 I4 (omega arith) refl g g g).1 d.group).0 in
      let n4 = (number_is r 233 I4 (omega arith) refl 1 1 1).1 d.channels in
      let n5 = (number_is r 237 I8 (omega arith) refl 1 99999999 q.n).1 d.lines in
      let n6 = (number_is r 249 I8 (omega arith) refl 1 99999999 q.w).1 d.w in
      let n7 = (number_is r 281 I8 (omega arith) refl 1 99999999 q.d).1 d.d in
      let n8 = (number_is r 289 I4 (omega arith) refl 0 9999 q.s).1 d.s in
      let a1 : number_at r 181 I6 ≡ number_at r 237 I8 = n1.1 ∙ sym n5.1 in
      let a2 : number_at r 281 I8 ≡ (sort_of' (sort_in r)).group * number_at r 249 I8 =
      n7.1 ∙ d.paired ∙ ap₂ (λ (i x : ℕ). i * x) (sym same-group) (sym n6.1) in
      let a3 : (sort_of' (sort_in r)).ahead + number_at r 281 I8 + number_at r 289 I4 ≤ number_at r 187 I6 = omega
      (arith, n7.1, n8.1, n2.1, d.room, same_ahead) in (
        (
          (text_is r 12 (bytes "A ") (omega arith)).1 d.ab,
          (
            subst (λ (i : ℕ). text_at r 428 (sort_of' i).text ≡ true) (sym sort) text,
            holds_join (numbers_tests r (image_numbers (sort_in r))) (agreements r)
                (next n1.0.0 (next n1.0.1.0 (next n2.0.0 (next n2.0.1.0 (next n3.0 (next n3.1.0
                (next n4.0.0 (next n4.0.1.0 (next n5.0.0 (next n5.0.1.0 (next n6.0.0 (next n6.0.1.0
                (next n7.0.0 (next n7.0.1.0 (next n8.0.0 (next n8.0.1.0 tt))))))))))))))))
                (eq-eqb _ _ a1, (eq-eqb _ _ a2, (le-leb _ _ a3, tt))),
          ),
        ),
        record { n = n1.1; l = n2.1; w = n6.1; d = n7.1; s = n8.1; sort = sort },
      )

pub image_is : (p q : Plan) (r : List ℕ) → length r ≡ 720
    → ((header_of 1 (first_codes 3) 720 r ≡ Ok tt) × (body_of 3 0 p 0 r ≡ Ok tt) × Named r q) ↔ ImageDescriptor r q
unfolding body_of body_tests image_record first_codes other_codes
image_is p q r size = (
  λ h. numbers_to q r size (fine_holds (image_tests r) h.1) h.0 h.2,
  λ d.
      let n = numbers_from q r size d in
      ((header_is 1 (first_codes 3) 720 r size).1 d.is, holds_fine (image_tests r) n.0, n.1),
)
