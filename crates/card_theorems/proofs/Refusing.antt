-- The builder refuses exactly where `Refused` says so: the image as its closed walk does, then the leader, then a buffer that is too short.
use Prim.Native.Nat.{ℕ}
use mathlib.Core.Path.{◌≡◌, refl, sym, ap, ap₂, ◌∙◌, subst}
use mathlib.Core.List.{List}
use mathlib.Core.Bool.{Bool, true, false}
use mathlib.Core.Logic.{◌↔◌}
use native.Mathlib.Omega.{arith}
use lib.Dec.{eqb, ltb}
use lib.ListN.{length, take}
use Rattle.std.specs.Prelude.{Ok, Err}
use Rattle.words.specs.Tests.{pick}
use Rattle.words.specs.Answer.{Answer, bare_refusal, refused_as}
use Rattle.words.specs.declared.Refusal.{Refusal}
use Rattle.plan.specs.declared.Plan.{Plan}
use Rattle.plan.proofs.Bounds.{total_small}
use Rattle.walk.specs.State.{fresh, next_due}
use Rattle.walk.specs.Walk.{next_of}
use Rattle.walk.specs.declared.State.{State}
use Rattle.walk.proofs.KeptLaws.{kept}
use Rattle.turns.specs.declared.Stop.{Stop}
use Rattle.turns.specs.declared.Stop.TheVariants as stop
use Rattle.bodies.specs.Named.{plan_of}
use Rattle.card_build.specs.Build.{Built, closed, card_long, fitted_of, built_behind, image_plan, leader_plan, built_of}
use Rattle.card_build.specs.Said.{built_as}
use Rattle.card_build.proofs.AnswerLaws.{small_kind}
use Rattle.promises.specs.Rules.{Kind, kind_number, image, leader}
use Rattle.promises.specs.Newest.{Accepted}
use Rattle.promises.proofs.Accepts.{plan_counts, kind_low, complete_accepted}
use Rattle.promises.proofs.Counted.{closed_never_waits}
use Rattle.promises.proofs.Enough.{enough}
use Rattle.refusals.proofs.Walked.{refused_to, refused_from}
use Rattle.card_theorems.specs.Refused.{BuildRefuses, scene, notes, short}
use Rattle.card_theorems.proofs.Files.{file}
use Rattle.card_theorems.proofs.Answers.{built_least}
use Rattle.refusals.proofs.Said.{refusal_said}

-- ---- the closed walk never pauses

next_counts : (kind : Kind) (st : State) (b : List ℕ) → (st.kind ≡ kind_number kind) × (length st.plan.counts ≡ 17)
    → ((next_of st b).kind ≡ kind_number kind) × (length (next_of st b).plan.counts ≡ 17)
unfolding next_of
next_counts kind st b h = (h.0, go (eqb st.passed 0))
  where
    go : (t : Bool) → length (pick t (plan_of st.kind (take (next_due st).length b)) st.plan).counts ≡ 17
    go true = subst (λ (k : ℕ). length (plan_of k (take (next_due st).length b)).counts ≡ 17) (sym h.0) (plan_counts kind (take (next_due st).length b))
    go false = h.1

never_pauses : (kind : Kind) (bs : List ℕ) → (closed (kind_number kind) bs).stop ≡ stop.Pause → ⊥
never_pauses kind bs e =
    let k = kind_number kind in
    let c = kept (λ s. (s.kind ≡ k) × (length s.plan.counts ≡ 17)) true (λ s y g t h. next_counts kind s y h) 17000002 (fresh k) bs (refl, refl) in
    let s = small_kind k bs (kind_low kind).0 (kind_low kind).1 in
    enough k 17000002 bs true (omega (arith, total_small k (closed k bs).state.plan c.1 s)) e

-- ---- the answer by the two stops

refused_same : (x y : Refusal) → ◌≡◌ {A = Built} (Err x) (Err y) → x ≡ y
refused_same x y e = cc

-- what does not fit is refused with 37 alone
fitted_refused : (p q : Plan) (m : ℕ) (x : Refusal) → fitted_of p q m ≡ Err x → x ≡ bare_refusal 37
unfolding fitted_of
fitted_refused p q m x e = go (ltb m (card_long p q)) e
  where
    go : (b : Bool) → pick b (Err (bare_refusal 37)) (Ok (card_long p q)) ≡ Err x → x ≡ bare_refusal 37
    go true h = sym (refused_same (bare_refusal 37) x h)
    go false h = absurd cc

module _ (bs ls : List ℕ) (m : ℕ) (x : Refusal) where
  build_to : built_of bs ls m ≡ Err x → BuildRefuses bs ls m x
  unfolding built_of
  build_to e = go (closed (kind_number image) bs).stop refl e
    where
      rest : Built
      rest = fitted_of (image_plan bs) (leader_plan ls) m

      later : Accepted image bs → (t : Stop) → (closed (kind_number leader) ls).stop ≡ t → built_behind t rest ≡ Err x → BuildRefuses bs ls m x
      later a (stop.Wait n) q h = absurd (closed_never_waits 17000002 (fresh (kind_number leader)) ls n q)
      later a stop.Pause q h = absurd (never_pauses leader ls q)
      later a stop.Complete q h =
          let b = complete_accepted leader ls 17000002 q in
          let y = fitted_refused (image_plan bs) (leader_plan ls) m x h in
          short a b ((built_least bs ls a b m).0 (e ∙ ap Err y)) y
      later a (stop.Refused r) q h = notes a (refused_to leader ls true x 17000002 (q ∙ ap stop.Refused (refused_same r x h)))

      go : (t : Stop) → (closed (kind_number image) bs).stop ≡ t → built_behind t (built_behind (closed (kind_number leader) ls).stop rest) ≡ Err x
          → BuildRefuses bs ls m x
      go (stop.Wait n) q h = absurd (closed_never_waits 17000002 (fresh (kind_number image)) bs n q)
      go stop.Pause q h = absurd (never_pauses image bs q)
      go stop.Complete q h = later (complete_accepted image bs 17000002 q) (closed (kind_number leader) ls).stop refl h
      go (stop.Refused r) q h = scene (refused_to image bs true x 17000002 (q ∙ ap stop.Refused (refused_same r x h)))

  build_from : BuildRefuses bs ls m x → built_of bs ls m ≡ Err x
  unfolding built_of
  build_from (scene y) =
      ap (λ (t : Stop). built_behind t (built_behind (closed (kind_number leader) ls).stop (fitted_of (image_plan bs) (leader_plan ls) m)))
      (refused_from image bs true x 17000002 (never_pauses image bs) y)
  build_from (notes a y) =
      ap₂ (λ (s t : Stop). built_behind s (built_behind t (fitted_of (image_plan bs) (leader_plan ls) m))) (file image bs a).complete
      (refused_from leader ls true x 17000002 (never_pauses leader ls) y)
  build_from (short a b h e) = (built_least bs ls a b m).1 h ∙ ap Err (sym e)

built_refused : (y : Built) (x : Refusal) → built_as y ≡ refused_as x → y ≡ Err x
built_refused (Ok n) x e =
    let w = ap (λ (a : Answer). a.word) e in
    let z : ◌≡◌ {A = ℕ} 0 1 = cc in absurd (omega arith)
built_refused (Err y) x e = ap Err (refusal_said y x e)

-- who gets which refusal of the builder, in both directions
pub build_refuses : (bs ls : List ℕ) (m : ℕ) (x : Refusal) → (built_as (built_of bs ls m) ≡ refused_as x) ↔ BuildRefuses bs ls m x
build_refuses bs ls m x = (λ e. build_to bs ls m x (built_refused (built_of bs ls m) x e), λ r. ap built_as (build_from bs ls m x r))
