-- The builder's answer over what a file is: a card that reads back with the scene's numbers, 37 exactly where it does not fit, each file's own refusal
-- before that; and bytes that are not the card's stay.
use Prim.Native.Nat.{ℕ, suc, ◌+◌, ◌*◌, ◌≤◌, ◌<◌}
use mathlib.Core.Path.{◌≡◌, refl, sym, ap, ap₂, ◌∙◌, subst}
use mathlib.Core.List.{List, ◌++◌}
use mathlib.Core.Bool.{Bool, true, false}
use mathlib.Core.Logic.{◌↔◌, ⊎_elim}
use native.Mathlib.Omega.{arith}
use lib.Dec.{ltb}
use lib.ListN.{length, take, drop, length-append}
use borrow.Author.Tests.{lt-ltb, le-ltb, ltb-true}
use Rattle.std.specs.Prelude.{Ok, Err}
use Rattle.words.specs.Tests.{pick}
use Rattle.words.specs.Answer.{bare_refusal}
use Rattle.words.specs.declared.Refusal.{Refusal}
use Rattle.words.proofs.Laws.{cases}
use Rattle.writing.specs.Writing.{written}
use Rattle.writing.proofs.WrittenLaws.{take_written, drop_written}
use Rattle.plan.specs.Plan as plan
use Rattle.plan.specs.Plan.{total_of, run_counts, sum_of}
use Rattle.plan.specs.declared.Plan.{Plan}
use Rattle.turns.specs.declared.Stop.{Stop}
use Rattle.turns.specs.declared.Stop.TheVariants as stop
use Rattle.card_theorems.specs.Card.{Card, listed}
use Rattle.cards.specs.Check.{carded, check_of, flat_of}
use Rattle.card_build.specs.Build.{closed, first_bytes, lines_bytes, leaders_bytes, card_bytes, card_long, fitted_of, fitted_card}
use Rattle.card_build.specs.Build.{Built, built_behind, card_behind, image_plan, leader_plan, built_of, card_of}
use Rattle.card_build.proofs.BuildLaws.{lines_long, leaders_long}
use Rattle.promises.specs.Rules.{image, leader}
use Rattle.promises.specs.Newest.{Accepted}
use Rattle.promises.specs.Shown.{line_record, left_fill, data_count, data_start, Stands}
use Rattle.promises.proofs.Accepts.{planned}
use Rattle.promises.proofs.AcceptedLines.{accepted_lines}
use Rattle.promises.proofs.LineNamed.{stands_shown}
use Rattle.lines.specs.View.{view_of, shown_view}
use Rattle.card_theorems.specs.Scene.{scene_of}
use Rattle.card_theorems.specs.Refused.{long_of}
use Rattle.card_theorems.proofs.Once.{card_checked, numbers_are}
use Rattle.card_theorems.proofs.Files.{file, records}
use Rattle.card_theorems.proofs.Built.{built_card}

-- ---- the card's length

card_long_lem : (p q : Plan) (bs : List ℕ) → length (card_bytes p q bs) ≡ card_long p q
unfolding card_bytes
card_long_lem p q bs =
    let b : List ℕ = lines_bytes p.n 0 720 p.l bs in
    let c : List ℕ = leaders_bytes (total_of plan.leader q) 0 q in
    omega (arith, length-append (first_bytes p) (b ++ c), length-append b c, lines_long p.n 0 720 p.l bs, leaders_long (total_of plan.leader q) 0 q)

-- ---- two accepted files

image_total : (p : Plan) → total_of plan.image p ≡ suc p.n
unfolding total_of run_counts sum_of
image_total p = omega arith

module _ (bs ls : List ℕ) (a : Accepted image bs) (b : Accepted leader ls) where
  -- the card's length is that of the two plans
  pub long_is : card_long (image_plan bs) (leader_plan ls) ≡ long_of a b
  long_is =
      let n : (image_plan bs).n ≡ length a.rest =
      ap (λ (x : Plan). x.n) (file image bs a).plan ∙ (omega (arith, records image bs a, image_total (planned image bs))) in
      let r : total_of plan.leader (leader_plan ls) ≡ suc (length b.rest) =
      ap (total_of plan.leader) (file leader ls b).plan ∙ sym (records leader ls b) in
      ap₂ (λ (x y : ℕ). 17 + 13 * x + 10 * y) n r

  -- what is left of the answer behind both walks
  built_is : (m : ℕ) → built_of bs ls m ≡ fitted_of (image_plan bs) (leader_plan ls) m
  unfolding built_of
  built_is m =
      ap₂ (λ (x y : Stop). built_behind x (built_behind y (fitted_of (image_plan bs) (leader_plan ls) m))) (file image bs a).complete
      (file leader ls b).complete

  card_is : (out : List ℕ) → card_of bs ls out ≡ fitted_card (image_plan bs) (leader_plan ls) bs out
  unfolding card_of
  card_is out =
      ap₂ (λ (x y : Stop). card_behind x out (card_behind y out (fitted_card (image_plan bs) (leader_plan ls) bs out))) (file image bs a).complete
      (file leader ls b).complete

  -- the bytes that are written are a card of the scene's numbers
  pub scene_card : Card (card_bytes (image_plan bs) (leader_plan ls) bs) (scene_of (image_plan bs) (leader_plan ls) bs)
  scene_card =
      let f = file image bs a in
      let g = file leader ls b in
      let stands : (k : ℕ) → 1 ≤ k → k ≤ (planned image bs).n → Stands bs k (planned image bs) =
      λ k h l. subst (Stands bs k) f.accepted.1
      (accepted_lines bs f.accepted.0 k h (subst (λ (x : Plan). k ≤ x.n) (sym f.accepted.1) l)) in
      subst (λ (x : Plan). Card (card_bytes x (leader_plan ls) bs) (scene_of x (leader_plan ls) bs)) (sym f.plan)
      (subst (λ (x : Plan). Card (card_bytes (planned image bs) x bs) (scene_of (planned image bs) x bs)) (sym g.plan)
      (built_card bs (planned image bs) (planned leader ls) f.good stands g.good g.counts g.lengths))

  -- where it fits, it is written, and it reads back with the scene's numbers; bytes behind it stay
  pub built_reads : (out : List ℕ) → long_of a b ≤ length out
      → (built_of bs ls (length out) ≡ Ok (long_of a b))
      × Card (take (long_of a b) (card_of bs ls out)) (scene_of (image_plan bs) (leader_plan ls) bs)
      × (drop (long_of a b) (card_of bs ls out) ≡ drop (long_of a b) out)
  unfolding fitted_of fitted_card
  built_reads out h =
      let t : List ℕ = card_bytes (image_plan bs) (leader_plan ls) bs in
      let e = long_is in
      let l : length t ≡ long_of a b = card_long_lem (image_plan bs) (leader_plan ls) bs ∙ e in
      let no = le-ltb (length out) (card_long (image_plan bs) (leader_plan ls)) (omega arith) in
      let c : card_of bs ls out ≡ written out 0 t =
      card_is out ∙ ap (λ (x : Bool). pick x out (written out 0 t)) no in (
        built_is (length out)
            ∙ ap (λ (x : Bool). pick x (Err (bare_refusal 37)) (Ok (card_long (image_plan bs) (leader_plan ls)))) no
            ∙ ap Ok e,
        subst (λ (x : List ℕ). Card x (scene_of (image_plan bs) (leader_plan ls) bs))
            (sym (take_written out 0 t (omega arith) (long_of a b) (card_of bs ls out) c (omega arith))) scene_card,
        drop_written out 0 t (omega arith) (long_of a b) (card_of bs ls out) c (omega arith),
      )

  -- 37 exactly where the card would not fit
  pub built_least : (m : ℕ) → (built_of bs ls m ≡ Err (bare_refusal 37)) ↔ (m < long_of a b)
  unfolding fitted_of
  built_least m = (to, from)
    where
      from : m < long_of a b → built_of bs ls m ≡ Err (bare_refusal 37)
      from h =
          built_is m
          ∙ ap (λ (x : Bool). pick x (Err (bare_refusal 37)) (Ok (card_long (image_plan bs) (leader_plan ls))))
          (lt-ltb m (card_long (image_plan bs) (leader_plan ls)) (omega (arith, long_is)))

      to : built_of bs ls m ≡ Err (bare_refusal 37) → m < long_of a b
      to e =
          ⊎_elim (λ t. omega (arith, long_is, ltb-true m (card_long (image_plan bs) (leader_plan ls)) t))
          (λ t.
          let q : ◌≡◌ {A = Built} (Ok (card_long (image_plan bs) (leader_plan ls))) (Err (bare_refusal 37)) =
          sym (built_is m
          ∙ ap (λ (x : Bool). pick x (Err (bare_refusal 37)) (Ok (card_long (image_plan bs) (leader_plan ls)))) t) ∙ e in absurd cc)
          (cases (ltb m (card_long (image_plan bs) (leader_plan ls))))

  -- the reader of it says as many lines and leader entries as there are, and writes the scene's numbers
  pub built_read_back : (check_of (card_bytes (image_plan bs) (leader_plan ls) bs) ≡ carded (image_plan bs).n (length (scene_of (image_plan bs)
      (leader_plan ls) bs).leaders))
      × (flat_of (image_plan bs).n (length (scene_of (image_plan bs) (leader_plan ls) bs).leaders) (card_bytes (image_plan bs) (leader_plan ls) bs)
      ≡ listed (scene_of (image_plan bs) (leader_plan ls) bs))
  built_read_back = (card_checked _ _ scene_card, numbers_are _ _ scene_card)

-- left fill and data count of a line are what the line view shows
pub scene_shown : (bs : List ℕ) (a : Accepted image bs) (k : ℕ) → 1 ≤ k → k ≤ (image_plan bs).n
    → view_of bs k ≡ shown_view (data_start (image_plan bs) k (line_record (image_plan bs) k bs)) (data_count (line_record (image_plan bs) k bs))
    (left_fill (line_record (image_plan bs) k bs))
scene_shown bs a k h l =
    let f = file image bs a in
    let e : image_plan bs ≡ f.accepted.0.plan = f.plan ∙ sym f.accepted.1 in
    stands_shown bs k (image_plan bs)
    (subst (Stands bs k) (sym e) (accepted_lines bs f.accepted.0 k h (subst (λ (x : Plan). k ≤ x.n) e l)))

-- ---- on a refusal every byte stays, whatever the files are

pub refused_stays : (bs ls out : List ℕ) (x : Refusal) → built_of bs ls (length out) ≡ Err x → card_of bs ls out ≡ out
unfolding built_of card_of fitted_of fitted_card
refused_stays bs ls out x e = go (closed plan.image bs).stop (closed plan.leader ls).stop (ltb (length out) (card_long (image_plan bs) (leader_plan ls))) e
  where
    long : ℕ
    long = card_long (image_plan bs) (leader_plan ls)

    new : List ℕ
    new = written out 0 (card_bytes (image_plan bs) (leader_plan ls) bs)

    fit : (b : Bool) → pick b (Err (bare_refusal 37)) (Ok long) ≡ Err x → pick b out new ≡ out
    fit true h = refl
    fit false h = absurd cc

    later : (t : Stop) (b : Bool) → built_behind t (pick b (Err (bare_refusal 37)) (Ok long)) ≡ Err x
        → card_behind t out (pick b out new) ≡ out
    later (stop.Wait n) b h = fit b h
    later stop.Pause b h = fit b h
    later stop.Complete b h = fit b h
    later (stop.Refused r) b h = refl

    go : (s t : Stop) (b : Bool) → built_behind s (built_behind t (pick b (Err (bare_refusal 37)) (Ok long))) ≡ Err x
        → card_behind s out (card_behind t out (pick b out new)) ≡ out
    go (stop.Wait n) t b h = later t b h
    go stop.Pause t b h = later t b h
    go stop.Complete t b h = later t b h
    go (stop.Refused r) t b h = refl
