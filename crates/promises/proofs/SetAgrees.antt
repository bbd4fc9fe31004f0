-- A set agrees exactly where its directory is a file of the rules and the list is its pointers' counts: a directory has at most eight records, so its
-- walk with a budget of nine is decided, and each count stands in its own pointer's record.
use Prim.Native.Nat.{ℕ, zero, suc, ◌+◌, ◌*◌, ◌≤◌, ◌<◌}
use mathlib.Core.Path.{◌≡◌, refl, sym, ap, ◌∙◌, subst}
use mathlib.Core.List.{List, [], ◌∷◌, ◌++◌}
use mathlib.Core.Logic.{◌↔◌}
use mathlib.Core.Bool.{Bool, true, false}
use native.Mathlib.Omega.{arith}
use lib.Dec.{eqb}
use lib.ListN.{length, take, drop, get_or, replicate, length-append, length-replicate, length-drop}
use lib.Seq.{take_at, drop-append-add}
use borrow.Author.Tests.{eq-eqb, eqb-true}
use Rattle.std.specs.Prelude.{Ok, Err}
use Rattle.words.specs.Tests.{pick}
use Rattle.words.specs.Words.{place_of}
use Rattle.words.specs.declared.Refusal.{Refusal}
use lib.IntN.{pos}
use Rattle.decimal.specs.Written.{number_written}
use Rattle.decimal.specs.Forms.{width_of}
use Rattle.decimal.specs.Grammar as grammar
use Rattle.decimal.specs.declared.Form.TheVariants.{I8}
use Rattle.fields.specs.Field.{field_bytes}
use Rattle.plan.specs.Plan.{volume as volume', first_length, total_of, sum_of, run_counts}
use Rattle.plan.specs.declared.Plan.{Plan}
use Rattle.walk.specs.State.{fresh, next_due}
use Rattle.walk.specs.Walk.{next_of}
use Rattle.walk.specs.declared.Walked.{Walked}
use Rattle.walk.proofs.LoopLaws.{walk_pass}
use Rattle.walk.proofs.TurnLaws.{next_passed}
use Rattle.turns.specs.declared.Stop.{Stop}
use Rattle.turns.specs.declared.Stop.TheVariants.{Wait, Pause, Complete, Refused as Refused'}
use Rattle.sets.specs.Set.{differs, count_byte, count_of, compare_from, compare_of, behind_walk, directory, set_of, Agreement}
use Rattle.sets.proofs.SetLaws.{few_pointers}
use Rattle.promises.specs.Rules.{volume, text_record, concat}
use Rattle.promises.specs.Newest.{Accepted, Numbered, First, VolumeDescriptor, promised, pointer}
use Rattle.promises.specs.Shown.{Counts}
use Rattle.promises.proofs.Accepts.{good_fresh, complete_accepted, follow_length}
use Rattle.promises.proofs.Counted.{closed_never_waits}
use Rattle.promises.proofs.Enough.{enough}
use Rattle.promises.proofs.FirstPasses.{taken_long, first_passes, first_same}
use Rattle.promises.proofs.LineNamed.{part_of}
use Rattle.promises.proofs.Parts.{number_reads}
use Rattle.promises.proofs.PlanNamed.{plan_kept}
use Rattle.promises.proofs.Records.{accepted_complete_records}
use Rattle.promises.proofs.Uniform.{At, uniform}

-- ---- the comparison

refused≢agrees : (r : Refusal) → ◌≡◌ {A = Agreement} (Err r) (Ok tt) → ⊥
refused≢agrees r e = cc

-- every count from pointer p on is the directory's
compare_to : (p : ℕ) (bs cs : List ℕ) → compare_from p bs cs ≡ Ok tt → (i : ℕ) → i < length cs → get_or cs i 0 ≡ count_of bs (p + i)
unfolding compare_from
compare_to p bs [] e i h = absurd (omega arith)
compare_to p bs (c ∷ cs) e i h = go (λ r j l. compare_to (p + 1) bs cs r j l) (eqb c (count_of bs p)) refl e i h
  where
    go : (compare_from (p + 1) bs cs ≡ Ok tt → (j : ℕ) → j < length cs → get_or cs j 0 ≡ count_of bs (p + 1 + j))
        → (b : Bool) → eqb c (count_of bs p) ≡ b → pick b (compare_from (p + 1) bs cs) (differs (place_of (count_byte p))) ≡ Ok tt
        → (i : ℕ) → i < length (c ∷ cs) → get_or (c ∷ cs) i 0 ≡ count_of bs (p + i)
    go ih true q r zero h = eqb-true c (count_of bs p) q ∙ ap (count_of bs) (let e : p ≡ p + 0 = omega arith in e)
    go ih true q r (suc i) h = ih r i (omega arith) ∙ ap (count_of bs) (let e : p + 1 + i ≡ p + suc i = omega arith in e)
    go ih false q r i h = absurd (refused≢agrees _ r)

compare_from_lem : (p : ℕ) (bs cs : List ℕ) → ((i : ℕ) → i < length cs → get_or cs i 0 ≡ count_of bs (p + i)) → compare_from p bs cs ≡ Ok tt
unfolding compare_from
compare_from_lem p bs [] h = refl
compare_from_lem p bs (c ∷ cs) h =
    let e : p + 0 ≡ p = omega arith in
    ap (λ (b : Bool). pick b (compare_from (p + 1) bs cs) (differs (place_of (count_byte p))))
    (eq-eqb c (count_of bs p) (h 0 (omega arith) ∙ ap (count_of bs) e))
    ∙ compare_from_lem (p + 1) bs cs (λ i l. h (suc i) (omega arith) ∙ ap (count_of bs) (let q : p + suc i ≡ p + 1 + i = omega arith in q))

-- a list of the directory's own length, and its counts
compare_is : (m : ℕ) (bs cs : List ℕ) → (compare_of m bs cs ≡ Ok tt) ↔ ((length cs ≡ m) × ((i : ℕ) → i < length cs → get_or cs i 0 ≡ count_of bs (1 + i)))
unfolding compare_of
compare_is m bs cs = (
  go (eqb (length cs) m) refl,
  λ h. ap (λ (b : Bool). pick b (compare_from 1 bs cs) (differs (place_of 161))) (eq-eqb (length cs) m h.0) ∙ compare_from_lem 1 bs cs h.1,
)
  where
    go : (b : Bool) → eqb (length cs) m ≡ b → pick b (compare_from 1 bs cs) (differs (place_of 161)) ≡ Ok tt
        → (length cs ≡ m) × ((i : ℕ) → i < length cs → get_or cs i 0 ≡ count_of bs (1 + i))
    go true q r = (eqb-true (length cs) m q, compare_to 1 bs cs r)
    go false q r = absurd (refused≢agrees _ r)

-- ---- the directory's walk

volume_total : (p : Plan) → total_of volume' p ≡ p.pointers + 2
unfolding total_of sum_of run_counts
volume_total p = omega arith

-- a budget of nine never stops it
pub directory_pauses : (bs : List ℕ) → (directory bs).stop ≡ Pause → ⊥
directory_pauses bs e =
    enough volume' 9 bs true (let t = volume_total (directory bs).state.plan in let f = few_pointers bs in omega arith) e

-- closed, with a budget of nine, it is complete or refused
directory_ends : (bs : List ℕ) (x : Stop) → (directory bs).stop ≡ x → (a : Agreement) → behind_walk x a ≡ Ok tt → (x ≡ Complete) × (a ≡ Ok tt)
directory_ends bs (Wait n) e a q = absurd (closed_never_waits 9 (fresh volume') bs n e)
directory_ends bs Pause e a q = absurd (directory_pauses bs e)
directory_ends bs Complete e a q = (refl, q)
directory_ends bs (Refused' r) e a q = absurd (refused≢agrees r q)

module _ (bs : List ℕ) (a : Accepted volume bs) where
  size : length a.first ≡ 360
  size = a.begins.is.size

  begins : First volume (take (first_length volume') bs) a.plan
  unfolding first_length
  begins = subst (λ (r : List ℕ). VolumeDescriptor r a.plan) (sym (ap (take 360) (sym a.are) ∙ take_at a.first (concat a.rest) 360 size))
      a.begins

  -- a file of the rules has at most eight records
  pub directory_complete : (directory bs).stop ≡ Complete
  directory_complete =
      accepted_complete_records volume bs a 9
      (let f = follow_length 1 (promised volume a.plan) a.rest a.follows in
      let g = length-append (replicate a.plan.pointers (pointer a.plan.pointers)) (text_record ∷ []) in
      let h = length-replicate a.plan.pointers (pointer a.plan.pointers) in
      let m = a.begins.pointers.most in
      omega arith)

  -- its pointer count is the one that the walk has
  pub directory_pointers : (directory bs).state.plan.pointers ≡ a.plan.pointers
  directory_pointers =
      let st = fresh volume' in
      let t = first_passes volume bs a.plan begins true in
      ap (λ (w : Walked). w.state.plan.pointers) (walk_pass st bs true 8 (good_fresh volume) t)
      ∙ ap (λ (p : Plan). p.pointers) (plan_kept 8 (next_of st bs) (drop (next_due st).length bs) true (λ z. let o = next_passed st bs in omega arith))
      ∙ first_same volume bs a.plan begins

  -- pointer i (from 0) is a record of its own, and its count stands where the check reads it
  module _ (i : ℕ) (h : i < a.plan.pointers) where
    pub found : At 1 i (pointer a.plan.pointers) a.rest
    found = uniform a.plan.pointers 1 i (pointer a.plan.pointers) (text_record ∷ []) a.rest a.follows h

    record_at_lem : get_or a.rest i [] ≡ take 360 (drop (360 + i * 360) bs)
    record_at_lem =
        sym (ap (take 360) (ap (λ (x : List ℕ). drop (360 + i * 360) x) (sym a.are)
        ∙ ap (λ (n : ℕ). drop (n + i * 360) (a.first ++ concat a.rest)) (sym size)
        ∙ drop-append-add a.first (concat a.rest) (i * 360))
        ∙ found.part)

    record_there : 360 ≤ length (drop (360 + i * 360) bs)
    record_there = taken_long 360 (drop (360 + i * 360) bs) (ap length (sym record_at_lem) ∙ found.is.size)

    count_place : place_of (count_byte (1 + i)) ≡ 360 + i * 360 + 100
    unfolding place_of
    count_place = omega arith

    count_bytes : field_bytes bs (place_of (count_byte (1 + i))) I8 ≡ field_bytes (get_or a.rest i []) (place_of 101) I8
    unfolding place_of
    count_bytes =
        ap (λ (x : ℕ). take 8 (drop x bs)) count_place
        ∙ sym (part_of (360 + i * 360) 360 100 8 bs record_there (omega arith))
        ∙ ap (λ (r : List ℕ). take 8 (drop 100 r)) (sym record_at_lem)

    count_held : place_of (count_byte (1 + i)) + width_of I8 ≤ length bs
    count_held = let r = record_there in let l = length-drop (360 + i * 360) bs in let c = count_place in omega arith

    -- what the rules name as its count is what is read there
    pub count_is : (n : ℕ) → Numbered (get_or a.rest i []) 101 I8 1 99999999 n → count_of bs (1 + i) ≡ n
    unfolding count_of
    count_is n q =
        number_reads bs (count_byte (1 + i)) I8 count_held refl 1 99999999 n
        (record {
          says = subst (λ (x : List ℕ). grammar.WellWritten I8 x (number_written (pos n) (pos 0))) (sym count_bytes) q.says;
          least = q.least;
          most = q.most;
        })

  set_to : (cs : List ℕ)
      → ((length cs ≡ (directory bs).state.plan.pointers) × ((i : ℕ) → i < length cs → get_or cs i 0 ≡ count_of bs (1 + i)))
      ↔ Counts a.plan.pointers a.rest cs
  set_to cs = (
    λ h.
        record {
          many = h.0 ∙ directory_pointers;
          each = λ i l.
              let c = (found i l).holds.counted in
              subst (Numbered (get_or a.rest i []) 101 I8 1 99999999)
              (sym (h.1 i (let m = h.0 in let p = directory_pointers in omega arith) ∙ count_is i l c.0 c.1)) c.1;
        },
    λ c. (
      c.many ∙ sym directory_pointers,
      λ i l.
          let j : i < a.plan.pointers = (let m = c.many in omega arith) in sym (count_is i j (get_or cs i 0) (c.each i j)),
    ),
  )

-- agrees exactly where the directory is accepted and the list is its pointers' counts
pub set_agrees : (bs cs : List ℕ) → (set_of bs cs ≡ Ok tt) ↔ ((a : Accepted volume bs) × Counts a.plan.pointers a.rest cs)
unfolding set_of
set_agrees bs cs = (
  λ e.
      let q = directory_ends bs (directory bs).stop refl (compare_of (directory bs).state.plan.pointers bs cs) e in
      let a = complete_accepted volume bs 9 q.0 in
      (a, (set_to bs a cs).0 ((compare_is (directory bs).state.plan.pointers bs cs).0 q.1)),
  λ h.
      ap (λ (x : Stop). behind_walk x (compare_of (directory bs).state.plan.pointers bs cs)) (directory_complete bs h.0)
      ∙ (compare_is (directory bs).state.plan.pointers bs cs).1 ((set_to bs h.0 cs).1 h.1),
)
