-- While a file arrives: what is refused no accepted file begins with, since a refusal stays and an accepted file's walk completes; what waits at a
-- record's end some accepted file begins with, since every good state can be completed.
use Prim.Native.Nat.{ℕ, suc, ◌+◌, ◌<◌}
use mathlib.Core.Path.{◌≡◌, refl, sym, ap, ◌∙◌, subst}
use mathlib.Core.List.{List, [], ◌++◌, append_assoc, append-nil}
use mathlib.Core.Bool.{true, false}
use mathlib.Core.Logic.{◌↔◌}
use native.Mathlib.Omega.{arith}
use lib.ListN.{take, drop, take-append-drop}
use Rattle.plan.specs.Plan.{total_of, records_most}
use Rattle.walk.specs.State.{fresh}
use Rattle.walk.specs.Walk.{walk_of}
use Rattle.walk.specs.declared.State.{State}
use Rattle.turns.specs.declared.Stop.{Stop}
use Rattle.turns.specs.declared.Stop.TheVariants.{Wait, Pause, Complete, Refused}
use Rattle.walk.specs.declared.Walked.{Walked}
use Rattle.promises.specs.Rules.{Kind, kind_number}
use Rattle.promises.specs.Newest.{Accepted}
use Rattle.promises.specs.Pieces.{used_of}
use Rattle.promises.specs.Bytes.{Bytes}
use Rattle.promises.specs.Arriving.{Own, again, Starts, Waits, Refuses}
use Rattle.promises.proofs.Accepts.{planned, accepted_complete, complete_accepted}
use Rattle.promises.proofs.Counted.{open_never_complete}
use Rattle.promises.proofs.Stays.{refusal_stays}
use Rattle.promises.proofs.Completed.{completes}
use Rattle.promises.proofs.Own.{Reached, reached}

stop_of : (w : Walked) → Stop
stop_of w = w.stop

-- began fresh, only its own states, the last call open, any bytes, any cut: refused → no accepted file begins with them
pub refused_none : (kind : Kind) {st : State} {pre : List ℕ} → Own kind st pre → (b : ℕ) (bs : List ℕ)
    → Refuses (walk_of b st bs false).stop → Starts kind (pre ++ bs) → ⊥
refused_none kind {st} {pre} o b bs (x, e) (ys, by, a) =
    let r = reached kind o in
    let all : List ℕ = (pre ++ bs) ++ ys in
    let d : ℕ = suc (total_of (kind_number kind) (planned kind all)) in
    let c : (walk_of (r.passed + (b + d)) (fresh (kind_number kind)) all true).stop ≡ Complete =
    accepted_complete kind all (r.passed + (b + d)) (omega arith) a in
    let q : (walk_of (r.passed + (b + d)) (fresh (kind_number kind)) all true).stop ≡ (walk_of (b + d) st (bs ++ ys) true).stop =
    ap (λ (z : List ℕ). (walk_of (r.passed + (b + d)) (fresh (kind_number kind)) z true).stop) (append_assoc pre bs ys)
    ∙ ap (λ (w : Walked). w.stop) (r.walks (b + d) (bs ++ ys) true) in
    let s : (walk_of (b + d) st (bs ++ ys) true).stop ≡ Refused x = ap (λ (w : Walked). w.stop) (refusal_stays b st bs x e ys true d) ∙ e in
    let t : Complete ≡ Refused x = sym c ∙ q ∙ s in
    let z : ◌≡◌ {A = ℕ} 0 1 = cc in
    omega arith

-- a wait that leaves no byte unpassed: some accepted file begins with the bytes
wait_starts : (kind : Kind) {st : State} {pre : List ℕ} → Own kind st pre → (b : ℕ) (bs : List ℕ) → drop (used_of b st bs false) bs ≡ []
    → Starts kind (pre ++ bs)
wait_starts kind {st} {pre} o b bs e = go (completes st' r.good r.rows.0 r.rows.1)
  where
    st' : State
    st' = (walk_of b st bs false).state

    r : Reached kind st' (pre ++ take (used_of b st bs false) bs)
    r = reached kind (again o b bs false)

    all : take (used_of b st bs false) bs ≡ bs
    all = sym (append-nil (take (used_of b st bs false) bs)) ∙ ap (λ (z : List ℕ). take (used_of b st bs false) bs ++ z) (sym e)
        ∙ take-append-drop (used_of b st bs false) bs

    go : (ys : List ℕ) × Bytes ys × ((n : ℕ) → records_most + 1 < n → (walk_of n st' ys true).stop ≡ Complete) → Starts kind (pre ++ bs)
    go (ys, by, c) =
        let k : (walk_of (r.passed + (records_most + 2)) (fresh (kind_number kind)) ((pre ++ take (used_of b st bs false) bs) ++ ys) true).stop ≡ Complete =
        ap (λ (w : Walked). w.stop) (r.walks (records_most + 2) ys true) ∙ c (records_most + 2) (omega arith) in (
          ys,
          by,
          subst (λ (z : List ℕ). Accepted kind ((pre ++ z) ++ ys)) all
              (complete_accepted kind ((pre ++ take (used_of b st bs false) bs) ++ ys) (r.passed + (records_most + 2)) k),
        )

-- an open call that does not pause waits or refuses
open_stop : (x : Stop) → (x ≡ Pause → ⊥) → (x ≡ Complete → ⊥) → (Waits x → ⊥) → Refuses x
open_stop (Wait n) p c w = absurd (w (n, refl))
open_stop Pause p c w = absurd (p refl)
open_stop Complete p c w = absurd (c refl)
open_stop (Refused r) p c w = (r, refl)

not_both : (x : Stop) → Waits x → Refuses x → ⊥
not_both x (n, e) (r, f) = cc

wait_or : (x : Stop) → (x ≡ Pause → ⊥) → (x ≡ Complete → ⊥) → (Refuses x → ⊥) → Waits x
wait_or (Wait n) p c r = (n, refl)
wait_or Pause p c r = absurd (p refl)
wait_or Complete p c r = absurd (c refl)
wait_or (Refused x) p c r = absurd (r (x, refl))

-- began fresh, only its own states, the last call open, no pause, and a wait leaves no byte unpassed:
-- wait exactly when some accepted file begins with the bytes, a refusal exactly when none does
pub arriving_any : (kind : Kind) {st : State} {pre : List ℕ} → Own kind st pre → (b : ℕ) (bs : List ℕ)
    → ((walk_of b st bs false).stop ≡ Pause → ⊥) → (Waits (walk_of b st bs false).stop → drop (used_of b st bs false) bs ≡ [])
    → (Waits (walk_of b st bs false).stop ↔ Starts kind (pre ++ bs)) × (Refuses (walk_of b st bs false).stop ↔ (Starts kind (pre ++ bs) → ⊥))
arriving_any kind {st} {pre} o b bs p h =
    let x = (walk_of b st bs false).stop in
    let c : x ≡ Complete → ⊥ = open_never_complete b st bs in (
      (λ w. wait_starts kind o b bs (h w), λ s. wait_or x p c (λ r. refused_none kind o b bs r s)),
      (λ r. refused_none kind o b bs r, λ n. open_stop x p c (λ w. n (wait_starts kind o b bs (h w)))),
    )
