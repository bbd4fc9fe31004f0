-- The answer of the builder and the lent bytes by what the two walks name and by the card's length; the plans of two walks are small.
use Prim.Native.Nat.{ℕ, ◌≤◌, ◌<◌}
use mathlib.Core.Path.{◌≡◌, refl, sym, ap, ap₂, ◌∙◌, subst}
use mathlib.Core.List.{List}
use mathlib.Core.Bool.{true}
use native.Mathlib.Omega.{arith}
use lib.ListN.{length}
use borrow.Author.Tests.{lt-ltb, le-ltb}
use Rattle.std.specs.Prelude.{Ok, Err}
use Rattle.words.specs.Answer.{bare_refusal}
use Rattle.words.specs.declared.Refusal.{Refusal}
use Rattle.writing.specs.Writing.{written}
use Rattle.plan.specs.Plan.{image, leader, run_counts, run_lengths, Small}
use Rattle.plan.specs.declared.Plan.{Plan}
use Rattle.walk.specs.State.{fresh}
use Rattle.walk.specs.declared.Walked.{Walked}
use Rattle.turns.specs.declared.Stop.{Stop}
use Rattle.turns.specs.declared.Stop.TheVariants.{Wait, Pause, Complete, Refused}
use Rattle.walk.proofs.GoodLaws.{ready, fresh_good}
use Rattle.walk.proofs.KeptLaws.{good_kept, kind_kept}
use Rattle.card_build.specs.Build.{closed, card_bytes, card_long, fitted_of, fitted_card, Planned}
use Rattle.card_build.specs.Build.{Built, named_behind, named_by, built_behind, card_behind, image_plan, leader_plan, built_of, card_of}

-- ---- the card fits or not

module _ (p q : Plan) (bs out : List ℕ) (long : ℕ) (e : long ≡ card_long p q) where
  pub short_answer : length out < long → Err (bare_refusal 37) ≡ fitted_of p q (length out)
  unfolding fitted_of
  short_answer h = sym (rw (lt-ltb (length out) (card_long p q) (omega arith)))

  pub short_card : length out < long → out ≡ fitted_card p q bs out
  unfolding fitted_card
  short_card h = sym (rw (lt-ltb (length out) (card_long p q) (omega arith)))

  pub fits_answer : long ≤ length out → Ok long ≡ fitted_of p q (length out)
  unfolding fitted_of
  fits_answer h = sym (rw (le-ltb (length out) (card_long p q) (omega arith)) (ap Ok (sym e)))

  pub fits_card : long ≤ length out → written out 0 (card_bytes p q bs) ≡ fitted_card p q bs out
  unfolding fitted_card
  fits_card h = sym (rw (le-ltb (length out) (card_long p q) (omega arith)))

-- ---- the two walks

pub small_kind : (kind : ℕ) (bs : List ℕ) → 1 ≤ kind → kind ≤ 4 → Small (run_counts kind (closed kind bs).state.plan) (run_lengths kind
    (closed kind bs).state.plan)
small_kind kind bs a b =
    subst (λ (i : ℕ). Small (run_counts i (closed kind bs).state.plan) (run_lengths i (closed kind bs).state.plan)) (kind_kept 17000002
    (fresh kind) bs true)
    (ready (closed kind bs).state (good_kept 17000002 (fresh kind) bs true (fresh_good kind a b))).small

few_lines : (p : Plan) → Small (run_counts image p) (run_lengths image p) → (p.n ≤ 999999) × (p.l ≤ 99999999)
unfolding run_counts run_lengths
few_lines p s = (s.few 0 (omega arith), s.short 0 (omega arith))

pub planned : (bs ls : List ℕ) → Planned (image_plan bs) (leader_plan ls)
planned bs ls =
    let f = few_lines (image_plan bs) (small_kind image bs (omega arith) (omega arith)) in
    record { lines = f.0; short = f.1; small = small_kind leader ls (omega arith) (omega arith) }

-- what a closed walk names, by its stop
pub named_err : (w : Walked) (r : Refusal) → named_by w ≡ Err r → w.stop ≡ Refused r
named_err w r e = go w.stop e
  where
    go : (x : Stop) → named_behind x w.state.plan ≡ Err r → x ≡ Refused r
    go (Wait n) h = absurd cc
    go Pause h = absurd cc
    go Complete h = absurd cc
    go (Refused r') h = let q : r' ≡ r = cc in ap Refused q

-- where it names a plan, the answer and the card are what is behind it
pub record Named (w : Walked) (p : Plan) : Type 0 where
  pub plan : w.state.plan ≡ p
  pub answer : (a : Built) → built_behind w.stop a ≡ a
  pub card : (old new : List ℕ) → card_behind w.stop old new ≡ new

pub named_ok : (w : Walked) (p : Plan) → named_by w ≡ Ok p → Named w p
named_ok w p e = let g = go w.stop e in record { plan = g.0; answer = g.1; card = g.2 }
  where
    go : (x : Stop) → named_behind x w.state.plan ≡ Ok p
        → (w.state.plan ≡ p) × ((a : Built) → built_behind x a ≡ a) × ((old new : List ℕ) → card_behind x old new ≡ new)
    go (Wait n) h = (cc, λ a. refl, λ old new. refl)
    go Pause h = (cc, λ a. refl, λ old new. refl)
    go Complete h = (cc, λ a. refl, λ old new. refl)
    go (Refused r) h = absurd cc

-- the refusal of a walk, and the plan of one that is not refused
pub named_refused : (w : Walked) (r : Refusal) → w.stop ≡ Refused r → Err r ≡ named_by w
named_refused w r e = sym (ap (λ (x : Stop). named_behind x w.state.plan) e)

pub named_plan : (w : Walked) → ((r : Refusal) → w.stop ≡ Refused r → ⊥) → Ok w.state.plan ≡ named_by w
named_plan w o = go w.stop o
  where
    go : (x : Stop) → ((r : Refusal) → x ≡ Refused r → ⊥) → Ok w.state.plan ≡ named_behind x w.state.plan
    go (Wait n) h = refl
    go Pause h = refl
    go Complete h = refl
    go (Refused r) h = absurd (h r refl)

module _ (bs ls out : List ℕ) where
  -- the image's refusal
  module _ (r : Refusal) (one : named_by (closed image bs) ≡ Err r) where
    pub image_answer : Err r ≡ built_of bs ls (length out)
    unfolding built_of
    image_answer = sym (rw (named_err (closed image bs) r one))

    pub image_card : out ≡ card_of bs ls out
    unfolding card_of
    image_card = sym (rw (named_err (closed image bs) r one))

  module _ (p : Plan) (one : named_by (closed image bs) ≡ Ok p) where
    -- the leader's
    module _ (r : Refusal) (two : named_by (closed leader ls) ≡ Err r) where
      pub leader_answer : Err r ≡ built_of bs ls (length out)
      unfolding built_of
      leader_answer = sym ((named_ok (closed image bs) p one).answer _ ∙ rw (named_err (closed leader ls) r two))

      pub leader_card : out ≡ card_of bs ls out
      unfolding card_of
      leader_card = sym ((named_ok (closed image bs) p one).card out _ ∙ rw (named_err (closed leader ls) r two))

    -- neither
    module _ (q : Plan) (two : named_by (closed leader ls) ≡ Ok q) where
      pub both_planned : Planned p q
      both_planned =
          rw (← (named_ok (closed image bs) p one).plan, ← (named_ok (closed leader ls) q two).plan) (planned bs ls)

      pub fitted_answer : fitted_of p q (length out) ≡ built_of bs ls (length out)
      unfolding built_of
      fitted_answer =
          let f = named_ok (closed image bs) p one in
          let g = named_ok (closed leader ls) q two in
          sym (f.answer _ ∙ g.answer _ ∙ ap₂ (λ (x y : Plan). fitted_of x y (length out)) f.plan g.plan)

      pub fitted_card_lem : fitted_card p q bs out ≡ card_of bs ls out
      unfolding card_of
      fitted_card_lem =
          let f = named_ok (closed image bs) p one in
          let g = named_ok (closed leader ls) q two in
          sym (f.card out _ ∙ g.card out _ ∙ ap₂ (λ (x y : Plan). fitted_card x y bs out) f.plan g.plan)
