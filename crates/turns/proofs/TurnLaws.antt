-- Steps 3 to 7 case by case: a turn that passes has found nothing wrong, and is taken apart into the tests that it made.
use Prim.Native.Nat.{ℕ, zero, suc, ◌-◌, ◌≤◌, ◌<◌}
use mathlib.Core.Path.{◌≡◌, refl, sym, ap, ◌∙◌}
use mathlib.Core.List.{List}
use mathlib.Core.Bool.{Bool, true, false}
use native.Mathlib.Omega.{arith}
use lib.Dec.{eqb, leb, ltb}
use lib.ListN.{length, take}
use Rattle.std.specs.Prelude.{Result, Ok, Err}
use borrow.Author.Tests.{eqb-true, leb-false, le-leb, lt-leb, lt-ltb, le-ltb, ltb-false}
use Rattle.words.specs.Tests.{pick}
use Rattle.words.specs.declared.Refusal.{Refusal}
use Rattle.plan.specs.Plan.{total_of}
use Rattle.plan.specs.declared.Plan.{Plan}
use Rattle.plan.specs.declared.Due.{Due}
use Rattle.bodies.specs.Bodies.{first_tests, body_tests, body_of}
use Rattle.bodies.specs.Named.{plan_of, first_of, found_of}
use Rattle.volume.specs.Volume.{volume_record}
use Rattle.leader.specs.Leader.{leader_record}
use Rattle.image.specs.Image.{image_record}
use Rattle.verdicts.specs.Tests.{Verdict, first_fault, named_by, verdict_of}
use Rattle.headers.specs.Header.{header_of}
use Rattle.turns.specs.Turn.{Turn, refused_at, on_fine, judge_of, ended_of, short_of, plan_in, plan_behind, passed_of, judged_of}
use Rattle.turns.specs.declared.Stop.{Stop}

pub record Parts (x y z : Bool) (h t : Verdict) : Type 0 where
  pub going : x ≡ false
  pub twelve : y ≡ false
  pub whole : z ≡ false
  pub head : h ≡ Ok tt
  pub body : t ≡ Ok tt

pub halt≢pass : (s : Stop) → ◌≡◌ {A = Turn} (Err s) (Ok tt) → ⊥
halt≢pass s e = let z : ◌≡◌ {A = ℕ} 0 1 = cc in omega arith

turn_parts : (x y z : Bool) (h t : Verdict) (o a : ℕ) (s₁ s₂ s₃ : Stop)
    → ◌≡◌ {A = Turn} (pick x (Err s₁) (pick y (Err s₂) (on_fine h o a (pick z (Err s₃) (on_fine t o a (Ok tt)))))) (Ok tt) → Parts x y z h t
turn_parts true y z h t o a s₁ s₂ s₃ e = absurd (halt≢pass s₁ e)
turn_parts false true z h t o a s₁ s₂ s₃ e = absurd (halt≢pass s₂ e)
turn_parts false false z (Err f) t o a s₁ s₂ s₃ e = absurd (halt≢pass _ e)
turn_parts false false true (Ok u) t o a s₁ s₂ s₃ e = absurd (halt≢pass s₃ e)
turn_parts false false false (Ok u) (Err f) o a s₁ s₂ s₃ e = absurd (halt≢pass _ e)
turn_parts false false false (Ok u) (Ok v) o a s₁ s₂ s₃ e = record { going = refl; twelve = refl; whole = refl; head = refl; body = refl }

module _ (kind : ℕ) (p : Plan) (k : ℕ) (d : Due) (b : List ℕ) (c : Bool) where
  pub pass_parts : judge_of kind p k d b c ≡ Ok tt
      → Parts (leb (total_of kind p) k) (ltb (length b) 12) (ltb (length b) d.length) (header_of d.ordinal d.codes d.length b)
      (body_of kind d.run p k (take d.length b))
  unfolding judge_of
  pass_parts e =
      turn_parts _ _ _ _ _ d.ordinal d.start (ended_of d.ordinal d.start (length b) c) (short_of d.ordinal d.start c (12 - length b))
      (short_of d.ordinal d.start c (d.length - length b)) e

  pub pass_long : judge_of kind p k d b c ≡ Ok tt → d.length ≤ length b
  pass_long e = ltb-false (length b) d.length (pass_parts e).whole

  pub pass_going : judge_of kind p k d b c ≡ Ok tt → k < total_of kind p
  pass_going e = leb-false (total_of kind p) k (pass_parts e).going

pub one_total : (kind : ℕ) (p : Plan) → 1 ≤ total_of kind p
unfolding total_of
one_total kind p = omega arith

-- steps 3 to 7 one after the other: what the judgement is in each case
module _ (kind : ℕ) (p : Plan) (k : ℕ) (d : Due) (b : List ℕ) (c : Bool) where
  pub judge_ended : total_of kind p ≤ k → judge_of kind p k d b c ≡ Err (ended_of d.ordinal d.start (length b) c)
  unfolding judge_of
  judge_ended h = simp (le-leb _ _ h)

  module _ (going : k < total_of kind p) where
    pub judge_twelve : length b < 12 → judge_of kind p k d b c ≡ Err (short_of d.ordinal d.start c (12 - length b))
    unfolding judge_of
    judge_twelve h = simp (lt-leb _ _ going, lt-ltb _ _ h)

    module _ (twelve : 12 ≤ length b) where
      pub judge_fault : (x : Refusal) → header_of d.ordinal d.codes d.length b ≡ Err x
          → judge_of kind p k d b c ≡ Err (refused_at d.ordinal d.start x.number x.place)
      unfolding judge_of
      judge_fault x e = simp (lt-leb _ _ going, le-ltb _ _ twelve, e)

      module _ (fine : header_of d.ordinal d.codes d.length b ≡ Ok tt) where
        pub judge_part : length b < d.length → judge_of kind p k d b c ≡ Err (short_of d.ordinal d.start c (d.length - length b))
        unfolding judge_of
        judge_part h = simp (lt-leb _ _ going, le-ltb _ _ twelve, fine, lt-ltb _ _ h)

        pub judge_body : d.length ≤ length b → judge_of kind p k d b c ≡ on_fine (body_of kind d.run p k (take d.length b)) d.ordinal d.start (Ok tt)
        unfolding judge_of
        judge_body h = simp (lt-leb _ _ going, le-ltb _ _ twelve, fine, le-ltb _ _ h)

-- ---- the plan beside the turn

-- a first record's body
pub first_body_lem : (kind run : ℕ) (p : Plan) (k : ℕ) (r : List ℕ) → run ≡ 0 → body_of kind run p k r ≡ first_fault (first_tests kind r)
unfolding body_of body_tests first_tests volume_record leader_record image_record
first_body_lem kind zero p k r e = refl
first_body_lem kind (suc run) p k r e = absurd (omega arith)

module _ (kind : ℕ) (p : Plan) (k : ℕ) (d : Due) (b : List ℕ) (c : Bool) where
  -- a turn that halts names no plan
  pub halted_is : {x : Stop} → judge_of kind p k d b c ≡ Err x → ◌≡◌ {A = Result Plan Stop} (Err x) (judged_of kind p k d b c)
  unfolding judged_of
  halted_is e = sym (ap (λ (t : Turn). plan_behind t kind p d.run (take d.length b)) e)

  -- the same, of the stop that the code hands back
  pub halted_answer : {x y : Stop} → x ≡ y → judge_of kind p k d b c ≡ Err y → ◌≡◌ {A = Result Plan Stop} (Err x) (judged_of kind p k d b c)
  halted_answer s e = ap (λ (z : Stop). Err z) s ∙ halted_is e

  -- what was found in the header: its fault is the stop, and without one nothing was found
  pub header_halts : k < total_of kind p → 12 ≤ length b → (v : Verdict) (y : Stop) → header_of d.ordinal d.codes d.length b ≡ v
      → passed_of v d ≡ Err y → judge_of kind p k d b c ≡ Err y
  header_halts going twelve (Ok u) y q e = absurd (halt≢pass y (sym e))
  header_halts going twelve (Err x) y q e = judge_fault kind p k d b c going twelve x q ∙ e

  pub header_passes : (v : Verdict) (u : Unit {0}) → passed_of v d ≡ Ok u → v ≡ Ok tt
  header_passes (Ok u) w e = refl
  header_passes (Err x) w e = absurd (halt≢pass _ e)

  -- what was found in the body decides both
  of_found : (first : Bool) (v : Verdict) (q : Plan) → passed_of (named_by v (pick first q p)) d ≡ plan_in (on_fine v d.ordinal d.start (Ok tt)) first q p
  of_found first (Ok u) q = refl
  of_found first (Err x) q = refl

  pub passed_is : judge_of kind p k d b c ≡ on_fine (body_of kind d.run p k (take d.length b)) d.ordinal d.start (Ok tt)
      → passed_of (found_of kind d.run p k (take d.length b)) d ≡ judged_of kind p k d b c
  unfolding judged_of found_of first_of
  passed_is e =
      go (eqb d.run 0) refl
      ∙ sym (ap (λ (t : Turn). plan_behind t kind p d.run (take d.length b)) e)
    where
      go : (x : Bool) → eqb d.run 0 ≡ x
          → passed_of (pick x (first_of kind (take d.length b)) (named_by (body_of kind d.run p k (take d.length b)) p)) d
          ≡ plan_in (on_fine (body_of kind d.run p k (take d.length b)) d.ordinal d.start (Ok tt)) x (plan_of kind (take d.length b)) p
      go true q =
          ap (λ (v : Verdict). passed_of (named_by v (plan_of kind (take d.length b))) d)
          (sym (first_body_lem kind d.run p k (take d.length b) (eqb-true d.run 0 q)))
          ∙ of_found true (body_of kind d.run p k (take d.length b)) (plan_of kind (take d.length b))
      go false q = of_found false (body_of kind d.run p k (take d.length b)) (plan_of kind (take d.length b))

-- the verdict of what is found in a body is the body's, first record or not
pub found_verdict : (kind run : ℕ) (p : Plan) (k : ℕ) (r : List ℕ) → verdict_of (found_of kind run p k r) ≡ body_of kind run p k r
unfolding found_of first_of
found_verdict kind run p k r = go (eqb run 0) refl
  where
    named : (v : Verdict) (q : Plan) → verdict_of (named_by v q) ≡ v
    named (Ok u) q = refl
    named (Err x) q = refl

    go : (x : Bool) → eqb run 0 ≡ x → verdict_of (pick x (first_of kind r) (named_by (body_of kind run p k r) p)) ≡ body_of kind run p k r
    go true q = named _ (plan_of kind r) ∙ sym (first_body_lem kind run p k r (eqb-true run 0 q))
    go false q = named _ p
