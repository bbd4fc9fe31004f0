-- A set check refuses exactly where `Questions` says so: its directory as the walk does, then a list of the wrong length, then the first pointer whose
-- count differs, by induction over the list.
use Prim.Native.Nat.{ℕ, zero, suc, ◌+◌, ◌*◌, ◌<◌}
use mathlib.Core.Path.{◌≡◌, refl, sym, ap, ◌∙◌, subst}
use mathlib.Core.Logic.{◌↔◌}
use mathlib.Core.List.{List, [], ◌∷◌}
use mathlib.Core.Bool.{Bool, true, false}
use native.Mathlib.Omega.{arith}
use lib.Dec.{eqb}
use lib.ListN.{length, get_or}
use borrow.Author.Tests.{eqb-true, eqb-false, eq-eqb, ne_eqb}
use Rattle.std.specs.Prelude.{Ok, Err}
use Rattle.words.specs.Tests.{pick}
use Rattle.words.specs.Words.{place_of}
use Rattle.words.specs.Answer.{refusal_at, refused_as}
use Rattle.words.specs.declared.Refusal.{Refusal}
use Rattle.plan.specs.Plan as plan
use Rattle.turns.specs.declared.Stop.{Stop}
use Rattle.turns.specs.declared.Stop.TheVariants as stop
use Rattle.walk.specs.State.{fresh}
use Rattle.sets.specs.Set.{differs, count_byte, count_of, compare_from, compare_of, behind_walk, directory, set_of, Agreement}
use Rattle.sets.specs.Said.{agreement_as}
use Rattle.promises.specs.Rules.{volume}
use Rattle.promises.specs.Newest.{Accepted}
use Rattle.promises.proofs.Counted.{closed_never_waits}
use Rattle.promises.proofs.Accepts.{complete_accepted}
use Rattle.promises.proofs.SetAgrees.{directory_pauses, directory_complete, directory_pointers, found, count_is}
use Rattle.refusals.specs.Questions.{Counted, SetRefuses, directory as own, many, count}
use Rattle.refusals.proofs.Said as said
use Rattle.refusals.proofs.Walked.{refused_to, refused_from}

refused_same : {x y : Refusal} → ◌≡◌ {A = Agreement} (Err x) (Err y) → x ≡ y
refused_same e = cc

agrees≢refused : (x : Refusal) → ◌≡◌ {A = Agreement} (Ok tt) (Err x) → ⊥
agrees≢refused x e = cc

-- ---- the first count that differs

-- of the counts from pointer p on
record Differs (p : ℕ) (bs cs : List ℕ) (x : Refusal) : Type 0 where
  at : ℕ
  within : at < length cs
  same : (j : ℕ) → j < at → get_or cs j 0 ≡ count_of bs (p + j)
  other : get_or cs at 0 ≡ count_of bs (p + at) → ⊥
  is : x ≡ refusal_at 12 (place_of (count_byte (p + at)))

compare_to : (p : ℕ) (bs cs : List ℕ) (x : Refusal) → compare_from p bs cs ≡ Err x → Differs p bs cs x
unfolding compare_from
compare_to p bs [] x e = absurd (agrees≢refused x e)
compare_to p bs (c ∷ cs) x e = go (compare_to (p + 1) bs cs x) (eqb c (count_of bs p)) refl e
  where
    go : (compare_from (p + 1) bs cs ≡ Err x → Differs (p + 1) bs cs x) → (b : Bool) → eqb c (count_of bs p) ≡ b
        → pick b (compare_from (p + 1) bs cs) (differs (place_of (count_byte p))) ≡ Err x → Differs p bs (c ∷ cs) x
    go more true q f =
        let m = more f in
        let i : p + 1 + m.at ≡ p + suc m.at = omega arith in
        record {
          at = suc m.at;
          within = let w = m.within in omega arith;
          same = before (eqb-true c (count_of bs p) q) m.same;
          other = λ h. m.other (h ∙ ap (count_of bs) (sym i));
          is = m.is ∙ ap (λ (n : ℕ). refusal_at 12 (place_of (count_byte n))) i;
        }
      where
        before : {m : ℕ} → c ≡ count_of bs p → ((j : ℕ) → j < m → get_or cs j 0 ≡ count_of bs (p + 1 + j)) → (j : ℕ) → j < suc m
            → get_or (c ∷ cs) j 0 ≡ count_of bs (p + j)
        before h g zero l = h ∙ ap (count_of bs) (let z : p ≡ p + 0 = omega arith in z)
        before h g (suc j) l = g j (omega arith) ∙ ap (count_of bs) (let z : p + 1 + j ≡ p + suc j = omega arith in z)
    go more false q f =
        let i : p ≡ p + 0 = omega arith in
        record {
          at = 0;
          within = omega arith;
          same = λ j l. absurd (omega arith);
          other = λ h. eqb-false c (count_of bs p) q (h ∙ ap (count_of bs) (sym i));
          is = sym (refused_same f) ∙ ap (λ (n : ℕ). refusal_at 12 (place_of (count_byte n))) i;
        }

compare_from_lem : (i p : ℕ) (bs cs : List ℕ) → i < length cs → ((j : ℕ) → j < i → get_or cs j 0 ≡ count_of bs (p + j)) →
    (get_or cs i 0 ≡ count_of bs (p + i) → ⊥)
    → compare_from p bs cs ≡ differs (place_of (count_byte (p + i)))
unfolding compare_from
compare_from_lem i p bs [] h s o = absurd (omega arith)
compare_from_lem zero p bs (c ∷ cs) h s o =
    let i : p ≡ p + 0 = omega arith in
    ap (λ (b : Bool). pick b (compare_from (p + 1) bs cs) (differs (place_of (count_byte p)))) (ne_eqb c (count_of bs p) (λ e. o (e ∙ ap (count_of bs) i)))
    ∙ ap (λ (n : ℕ). differs (place_of (count_byte n))) i
compare_from_lem (suc i) p bs (c ∷ cs) h s o =
    let z : p + 0 ≡ p = omega arith in
    let y : p + 1 + i ≡ p + suc i = omega arith in
    ap (λ (b : Bool). pick b (compare_from (p + 1) bs cs) (differs (place_of (count_byte p))))
    (eq-eqb c (count_of bs p) (s 0 (omega arith) ∙ ap (count_of bs) z))
    ∙ compare_from_lem i (p + 1) bs cs (omega arith)
    (λ j l. s (suc j) (omega arith) ∙ ap (count_of bs) (let w : p + suc j ≡ p + 1 + j = omega arith in w)) (λ e. o (e ∙ ap (count_of bs) y))
    ∙ ap (λ (n : ℕ). differs (place_of (count_byte n))) y

-- ---- the counts by the rules

module _ (bs : List ℕ) (a : Accepted volume bs) (i : ℕ) (h : i < a.plan.pointers) where
  count_same : (n : ℕ) → (n ≡ count_of bs (1 + i)) ↔ Counted (get_or a.rest i []) n
  count_same n = (
    λ e. let c = (found bs a i h).holds.counted in subst (Counted (get_or a.rest i [])) (sym (e ∙ count_is bs a i h c.0 c.1)) c.1,
    λ c. sym (count_is bs a i h n c),
  )

count_place : (i : ℕ) → place_of (count_byte (1 + i)) ≡ 360 * suc i + 100
unfolding place_of
count_place i = omega arith

list_place : place_of 161 ≡ 160
unfolding place_of
list_place = refl

-- ---- the check

module _ (bs cs : List ℕ) (x : Refusal) where
  set_to : set_of bs cs ≡ Err x → SetRefuses bs cs x
  unfolding set_of compare_of
  set_to e = go (directory bs).stop refl e
    where
      counted : (a : Accepted volume bs) → length cs ≡ a.plan.pointers → Differs 1 bs cs x → SetRefuses bs cs x
      counted a m d =
          let w = d.within in
          count a m d.at d.within
          (λ j l. (count_same bs a j (omega arith) (get_or cs j 0)).0 (d.same j l))
          (λ c. d.other ((count_same bs a d.at (omega arith) (get_or cs d.at 0)).1 c))
          (d.is ∙ ap (refusal_at 12) (count_place d.at))

      compared : (a : Accepted volume bs) (b : Bool) → eqb (length cs) (directory bs).state.plan.pointers ≡ b
          → pick b (compare_from 1 bs cs) (differs (place_of 161)) ≡ Err x → SetRefuses bs cs x
      compared a true q f = counted a (eqb-true _ _ q ∙ directory_pointers bs a) (compare_to 1 bs cs x f)
      compared a false q f =
          many a (λ m. eqb-false (length cs) (directory bs).state.plan.pointers q (m ∙ sym (directory_pointers bs a)))
          (sym (refused_same f) ∙ ap (refusal_at 12) list_place)

      go : (s : Stop) → (directory bs).stop ≡ s → behind_walk s (compare_of (directory bs).state.plan.pointers bs cs) ≡ Err x → SetRefuses bs cs x
      go (stop.Wait n) q f = absurd (closed_never_waits 9 (fresh plan.volume) bs n q)
      go stop.Pause q f = absurd (directory_pauses bs q)
      go stop.Complete q f =
          compared (complete_accepted volume bs 9 q) (eqb (length cs) (directory bs).state.plan.pointers) refl f
      go (stop.Refused r) q f = own (refused_to volume bs true x 9 (q ∙ ap stop.Refused (refused_same f)))

  set_from : SetRefuses bs cs x → set_of bs cs ≡ Err x
  unfolding set_of compare_of
  set_from (own y) =
      ap (λ (s : Stop). behind_walk s (compare_of (directory bs).state.plan.pointers bs cs)) (refused_from volume bs true x 9 (λ e. directory_pauses bs e) y)
  set_from (many a h e) =
      ap (λ (s : Stop). behind_walk s (compare_of (directory bs).state.plan.pointers bs cs)) (directory_complete bs a)
      ∙ ap (λ (b : Bool). pick b (compare_from 1 bs cs) (differs (place_of 161)))
      (ne_eqb (length cs) (directory bs).state.plan.pointers (λ m. h (m ∙ directory_pointers bs a)))
      ∙ ap (λ (n : ℕ). Err (refusal_at 12 n)) list_place
      ∙ ap Err (sym e)
  set_from (count a m i h s o e) =
      let p = directory_pointers bs a in
      ap (λ (s : Stop). behind_walk s (compare_of (directory bs).state.plan.pointers bs cs)) (directory_complete bs a)
      ∙ ap (λ (b : Bool). pick b (compare_from 1 bs cs) (differs (place_of 161))) (eq-eqb (length cs) (directory bs).state.plan.pointers (m ∙ sym p))
      ∙ compare_from_lem i 1 bs cs h (λ j l. (count_same bs a j (omega arith) (get_or cs j 0)).1 (s j l))
      (λ c. o ((count_same bs a i (omega arith) (get_or cs i 0)).0 c))
      ∙ ap (λ (n : ℕ). Err (refusal_at 12 n)) (count_place i)
      ∙ ap Err (sym e)

pub set_exactly : (bs cs : List ℕ) (x : Refusal) → (agreement_as (set_of bs cs) ≡ refused_as x) ↔ SetRefuses bs cs x
set_exactly bs cs x = (λ e. set_to bs cs x (said.set_refused _ x e), λ y. ap agreement_as (set_from bs cs x y))
