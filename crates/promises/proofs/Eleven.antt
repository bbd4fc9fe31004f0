-- Refusal 11 is given exactly when the state is bad: a turn's refusals have other numbers, by what the fault of a header or a body can be.
use Prim.Native.Nat.{ℕ, ◌≤◌}
use mathlib.Core.Path.{◌≡◌, refl, sym, ap, ◌∙◌, subst}
use mathlib.Core.Logic.{◌↔◌, ⊎_elim}
use mathlib.Core.List.{List}
use mathlib.Core.Bool.{Bool, true, false, false≢true}
use native.Mathlib.Omega.{arith}
use Rattle.std.specs.Prelude.{Err}
use Rattle.words.specs.Tests.{pick}
use Rattle.words.specs.declared.Refusal.{Refusal}
use Rattle.words.proofs.Laws.{cases}
use Rattle.walk.specs.State.{good_state}
use Rattle.turns.specs.Turn.{refused_at}
use Rattle.walk.specs.Walk.{turn_of, walk_of}
use Rattle.walk.specs.declared.State.{State}
use Rattle.turns.specs.declared.Stop.{Stop}
use Rattle.turns.specs.declared.Stop.TheVariants.{Wait, Complete, Refused}
use Rattle.walk.specs.declared.Walked.{Walked}
use Rattle.turns.proofs.FaultLaws.{FaultCan, header_can, body_can}
use Rattle.walk.proofs.TurnLaws.{good_next}
use Rattle.promises.proofs.Steps.{by_turns}
use Rattle.promises.proofs.Counted.{bad_kept}
use Rattle.promises.proofs.Turns.{halt_of, wait≢refused, complete≢refused, pause≢refused, refused_same}

-- a turn's refusal has a number of at most 10
abbrev LowStop : Stop → Type 0
LowStop z = (y : Refusal) → z ≡ Refused y → y.number ≤ 10

refused_low : (o a n p : ℕ) → n ≤ 10 → LowStop (refused_at o a n p)
refused_low o a n p h y e = subst (λ (r : Refusal). r.number ≤ 10) (refused_same e) h

turn_low : (st : State) (b : List ℕ) (c : Bool) (x : Stop) → turn_of st b c ≡ Err x → LowStop x
turn_low st b c x =
    halt_of LowStop st b c x (closing c) (λ n y e. absurd (wait≢refused e)) (refused_low _ _ 9 0 (omega arith)) (refused_low _ _ 2 0 (omega arith))
    (λ y e. refused_low _ _ y.number y.place (subst (FaultCan 0 b) e (header_can _ _ _ b)).low)
    (λ y e. refused_low _ _ y.number y.place (subst (FaultCan _ _) e (body_can _ _ _ _ _)).low)
  where
    closing : (c : Bool) → LowStop (pick c Complete (Wait 0))
    closing true y e = absurd (complete≢refused e)
    closing false y e = absurd (wait≢refused e)

-- a good state is never refused with 11
pub good_low : (b : ℕ) (st : State) (bs : List ℕ) (c : Bool) → good_state st ≡ true → (x : Refusal) → (walk_of b st bs c).stop ≡ Refused x → x.number ≤ 10
good_low b st bs c =
    by_turns c (λ n s y w u. good_state s ≡ true → (x : Refusal) → w.stop ≡ Refused x → x.number ≤ 10) (λ n s y g h x e. absurd (false≢true (sym g ∙ h)))
    (λ s y g h x e. absurd (pause≢refused e)) (λ n s y z g t h x e. turn_low s y c z t x e) (λ n s y w u g t i h x e. i (good_next s y c h t) x e) b st bs

-- 11 exactly when the state is bad
pub eleven : (b : ℕ) (st : State) (bs : List ℕ) (c : Bool)
    → ((x : Refusal) × ((walk_of b st bs c).stop ≡ Refused x) × (x.number ≡ 11)) ↔ (good_state st ≡ false)
eleven b st bs c = (
  λ q. ⊎_elim (λ g. absurd (over (good_low b st bs c g q.0 q.1) q.2)) (λ g. g) (cases (good_state st)),
  λ g. (
    record { number = 11; «record» = 0; place = 0 },
    ap (λ (w : Walked). w.stop) (bad_kept b st bs c g),
    refl,
  ),
)
  where
    over : {n : ℕ} → n ≤ 10 → n ≡ 11 → ⊥
    over h e = omega arith
