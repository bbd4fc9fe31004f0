-- The bytes that a call passed are the difference of the next record's place in the file, which `start` answers: records lie end to end, by induction
-- over the runs of the plan.
use Prim.Native.Nat.{ℕ, zero, suc, ◌+◌, ◌-◌, ◌*◌, ◌≤◌, ◌<◌}
use mathlib.Core.Path.{◌≡◌, refl, sym, ap, ◌∙◌}
use mathlib.Core.Logic.{⊎_elim}
use mathlib.Core.List.{List, [], ◌∷◌}
use mathlib.Core.Bool.{Bool, true, false}
use native.Mathlib.Nat.{zero-mul, suc-mul}
use native.Mathlib.Numerals.{add-one}
use native.Mathlib.Omega.{arith}
use lib.Dec.{eqb, ltb}
use lib.ListN.{take}
use borrow.Author.Tests.{ltb-true, ltb-false, lt-ltb, le-ltb, ne_eqb}
use Rattle.words.specs.Tests.{pick}
use Rattle.words.proofs.Laws.{cases}
use Rattle.plan.specs.Plan.{spot_from, spot_of, run_counts, run_lengths, first_length, due_of}
use Rattle.plan.specs.declared.Plan.{Plan}
use Rattle.plan.specs.declared.Spot.{Spot}
use Rattle.bodies.specs.Named.{plan_of}
use Rattle.walk.specs.State.{good_state, next_due, start_of}
use Rattle.walk.specs.Walk.{next_of, walk_of}
use Rattle.walk.specs.declared.State.{State}
use Rattle.walk.specs.declared.Walked.{Walked}
use Rattle.promises.specs.Pieces.{used_of}
use Rattle.promises.proofs.Steps.{by_turns, used_bad}
use Rattle.walk.proofs.KeptLaws.{good_kept}
use Rattle.promises.proofs.Counted.{bad_kept}

-- one run and those behind it
module _ (i c l : ℕ) (cs ls : List ℕ) (k at : ℕ) where
  in_run : k < c → spot_from i (c ∷ cs) (l ∷ ls) k at ≡ record { run = i; length = l; start = at + k * l }
  unfolding spot_from
  in_run h = simp (lt-ltb _ _ h)

  past_run : c ≤ k → spot_from i (c ∷ cs) (l ∷ ls) k at ≡ spot_from (i + 1) cs ls (k - c) (at + c * l)
  unfolding spot_from
  past_run h = simp (le-ltb _ _ h)

-- the first record of the runs stands where they begin
from_first : (i : ℕ) (cs ls : List ℕ) (at : ℕ) → (spot_from i cs ls 0 at).start ≡ at
unfolding spot_from
from_first i [] ls at = refl
from_first i (c ∷ cs) [] at = refl
from_first i (c ∷ cs) (l ∷ ls) at =
    ⊎_elim (λ z. ap (λ (s : Spot). s.start) (in_run i c l cs ls 0 at (ltb-true _ _ z)) ∙ omega (arith, zero-mul l))
    (λ z. on (from_first (i + 1) cs ls (at + c * l)) (ltb-false 0 c z)) (cases (ltb 0 c))
  where
    on : (spot_from (i + 1) cs ls 0 (at + c * l)).start ≡ at + c * l → c ≤ 0 → (spot_from i (c ∷ cs) (l ∷ ls) 0 at).start ≡ at
    on ih h =
        let c0 : c ≡ 0 = omega arith in
        let k0 : 0 - c ≡ 0 = omega arith in
        let m0 : c * l ≡ 0 = ap (λ (n : ℕ). n * l) c0 ∙ zero-mul l in
        ap (λ (s : Spot). s.start) (past_run i c l cs ls 0 at (omega arith))
        ∙ ap (λ (k : ℕ). (spot_from (i + 1) cs ls k (at + c * l)).start) k0
        ∙ ih
        ∙ omega arith

-- each record begins where the one before it ends
from_next : (i : ℕ) (cs ls : List ℕ) (k at : ℕ) → (spot_from i cs ls (suc k) at).start ≡ (spot_from i cs ls k at).start + (spot_from i cs ls k at).length
unfolding spot_from
from_next i [] ls k at = omega arith
from_next i (c ∷ cs) [] k at = omega arith
from_next i (c ∷ cs) (l ∷ ls) k at =
    ⊎_elim
    (λ z. ⊎_elim (λ y. inside (ltb-true k c z) (ltb-true (suc k) c y)) (λ y. edge (ltb-true k c z) (ltb-false (suc k) c y)) (cases (ltb (suc k) c)))
    (λ z. beyond (from_next (i + 1) cs ls (k - c) (at + c * l)) (ltb-false k c z)) (cases (ltb k c))
  where
    inside : k < c → suc k < c
        → (spot_from i (c ∷ cs) (l ∷ ls) (suc k) at).start ≡ (spot_from i (c ∷ cs) (l ∷ ls) k at).start + (spot_from i (c ∷ cs) (l ∷ ls) k at).length
    inside h j =
        ap (λ (s : Spot). s.start) (in_run i c l cs ls (suc k) at j)
        ∙ (let e : at + suc k * l ≡ at + k * l + l = omega (arith, suc-mul k l) in e)
        ∙ ap (λ (s : Spot). s.start + s.length) (sym (in_run i c l cs ls k at h))

    edge : k < c → c ≤ suc k
        → (spot_from i (c ∷ cs) (l ∷ ls) (suc k) at).start ≡ (spot_from i (c ∷ cs) (l ∷ ls) k at).start + (spot_from i (c ∷ cs) (l ∷ ls) k at).length
    edge h j =
        let ck : c ≡ suc k = omega arith in
        let k0 : suc k - c ≡ 0 = omega arith in
        let m : c * l ≡ k * l + l = ap (λ (n : ℕ). n * l) ck ∙ suc-mul k l in
        ap (λ (s : Spot). s.start) (past_run i c l cs ls (suc k) at j)
        ∙ ap (λ (n : ℕ). (spot_from (i + 1) cs ls n (at + c * l)).start) k0
        ∙ from_first (i + 1) cs ls (at + c * l)
        ∙ (let e : at + c * l ≡ at + k * l + l = omega arith in e)
        ∙ ap (λ (s : Spot). s.start + s.length) (sym (in_run i c l cs ls k at h))

    beyond : (spot_from (i + 1) cs ls (suc (k - c)) (at + c * l)).start
        ≡ (spot_from (i + 1) cs ls (k - c) (at + c * l)).start + (spot_from (i + 1) cs ls (k - c) (at + c * l)).length → c ≤ k
        → (spot_from i (c ∷ cs) (l ∷ ls) (suc k) at).start ≡ (spot_from i (c ∷ cs) (l ∷ ls) k at).start + (spot_from i (c ∷ cs) (l ∷ ls) k at).length
    beyond ih h =
        let d : suc k - c ≡ suc (k - c) = omega arith in
        ap (λ (s : Spot). s.start) (past_run i c l cs ls (suc k) at (omega arith))
        ∙ ap (λ (n : ℕ). (spot_from (i + 1) cs ls n (at + c * l)).start) d
        ∙ ih
        ∙ ap (λ (s : Spot). s.start + s.length) (sym (past_run i c l cs ls k at h))

-- records lie end to end; the plan that the first record names has no say in where the second begins
module _ (kind : ℕ) (p q : Plan) where
  pub second_start : (due_of kind q 1).start ≡ (due_of kind p 0).start + (due_of kind p 0).length
  unfolding spot_of
  second_start = from_first 1 (run_counts kind q) (run_lengths kind q) (first_length kind)
      ∙ (let e : first_length kind ≡ 0 + first_length kind = omega arith in e)

pub end_to_end : (kind : ℕ) (p : Plan) (k : ℕ) → (due_of kind p (suc k)).start ≡ (due_of kind p k).start + (due_of kind p k).length
unfolding spot_of
end_to_end kind p zero = second_start kind p p
end_to_end kind p (suc k) = from_next 1 (run_counts kind p) (run_lengths kind p) k (first_length kind)

next_start : (st : State) (b : List ℕ) → (next_due (next_of st b)).start ≡ (next_due st).start + (next_due st).length
unfolding next_of
next_start st b = go st.passed
  where
    go : (k : ℕ)
        → (due_of st.kind (pick (eqb k 0) (plan_of st.kind (take (due_of st.kind st.plan k).length b)) st.plan) (k + 1)).start
        ≡ (due_of st.kind st.plan k).start + (due_of st.kind st.plan k).length
    go zero = second_start st.kind st.plan (plan_of st.kind (take (due_of st.kind st.plan 0).length b))
    go (suc k) = rw (ne_eqb (suc k) 0 (λ z. omega arith), add-one (suc k)) (end_to_end st.kind st.plan (suc k))

spot_advances : (b : ℕ) (st : State) (bs : List ℕ) (c : Bool) → (next_due (walk_of b st bs c).state).start ≡ (next_due st).start + used_of b st bs c
spot_advances b st bs c =
    by_turns c (λ n s y w u. (next_due w.state).start ≡ (next_due s).start + u) (λ n s y g. omega arith) (λ s y g. omega arith) (λ n s y x g t. omega arith)
    (λ n s y w u g t e. omega (arith, next_start s y)) b st bs

module _ (st : State) where
  start_good : good_state st ≡ true → start_of st ≡ (next_due st).start
  unfolding start_of
  start_good g = simp g

  start_bad : good_state st ≡ false → start_of st ≡ 0
  unfolding start_of
  start_bad g = simp g

-- for any state: what `start` says after the call is what it said before, and the bytes passed
pub start_advances : (b : ℕ) (st : State) (bs : List ℕ) (c : Bool) → start_of (walk_of b st bs c).state ≡ start_of st + used_of b st bs c
start_advances b st bs c = ⊎_elim good bad (cases (good_state st))
  where
    good : good_state st ≡ true → start_of (walk_of b st bs c).state ≡ start_of st + used_of b st bs c
    good g =
        start_good (walk_of b st bs c).state (good_kept b st bs c g)
        ∙ spot_advances b st bs c
        ∙ ap (λ (n : ℕ). n + used_of b st bs c) (sym (start_good st g))

    bad : good_state st ≡ false → start_of (walk_of b st bs c).state ≡ start_of st + used_of b st bs c
    bad g =
        let same : (walk_of b st bs c).state ≡ st = ap (λ (w : Walked). w.state) (bad_kept b st bs c g) in
        ap start_of same ∙ (let e : start_of st ≡ start_of st + used_of b st bs c = omega (arith, used_bad st bs c b g) in e)

-- so a caller that knows the two states knows the bytes passed
pub used_between : (b : ℕ) (st : State) (bs : List ℕ) (c : Bool) → used_of b st bs c ≡ start_of (walk_of b st bs c).state - start_of st
used_between b st bs c = omega (arith, start_advances b st bs c)
