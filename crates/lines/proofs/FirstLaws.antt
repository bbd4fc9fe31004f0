-- The first record of an image as the walk judges it, open, test by test: where one fails the view waits or refuses, where none does the line follows under
-- the plan that the record names.
use Prim.Native.Nat.{ℕ, ◌+◌, ◌-◌, ◌≤◌, ◌<◌}
use mathlib.Core.Path.{◌≡◌, refl, sym, ap, ◌∙◌, subst}
use mathlib.Core.List.{List}
use mathlib.Core.Bool.{Bool, true, false}
use native.Mathlib.Omega.{arith}
use native.Mathlib.Nat.{zero-add}
use lib.Dec.{ltb}
use lib.ListN.{length, take, drop}
use borrow.Author.Tests.{lt-ltb, le-ltb}
use Rattle.words.specs.Tests.{pick}
use Rattle.plan.specs.Plan.{image, zero_plan, first_codes, first_length, codes_of, spot_of, total_of, sum_of, run_counts}
use Rattle.plan.specs.declared.Plan.{Plan}
use Rattle.headers.specs.Header.{header_of}
use Rattle.verdicts.specs.Tests.{Verdict, named_by}
use Rattle.words.specs.declared.Refusal.{Refusal}
use Rattle.image.specs.Image.{image_record}
use Rattle.bodies.specs.Bodies.{first_tests, body_tests, body_of}
use Rattle.bodies.specs.Named.{plan_of, first_of as first_of'}
use Rattle.turns.specs.Turn.{Turn, on_fine, short_of, judge_of}
use Rattle.turns.specs.declared.Stop.{Stop}
use Rattle.turns.specs.declared.Stop.TheVariants.{Wait as Wait', Pause, Refused as Refused'}
use Rattle.walk.specs.State.{fresh, good_state}
use Rattle.walk.specs.Walk.{turn_of, next_of, stopped, more, bad_stop, on_turn, walk_of}
use Rattle.walk.specs.declared.State.{State}
use Rattle.walk.specs.declared.Walked.{Walked}
use Rattle.walk.proofs.GoodLaws.{fresh_good}
use Rattle.walk.proofs.KeptLaws.{good_kept}
use Rattle.lines.specs.View.{line_of, behind_first, first_of, view_of, sort_seen, sorted_of, Lined, Leads}
use Rattle.lines.specs.declared.Sorted.{Sorted}
use Rattle.lines.specs.declared.Unshown.{Unshown}
use Rattle.lines.specs.declared.Unshown.TheVariants.{Wait, Refused}
use Rattle.std.specs.Prelude.{Result, Ok, Err}
use Rattle.lines.proofs.LinedLaws.{lined}

-- what is found in the first record's body
abbrev pub first_body : List ℕ → Verdict
first_body bs = body_of image 0 zero_plan 0 (take 720 bs)

-- as the code reads it
body_is : (bs : List ℕ) → first_of' image (take 720 bs) ≡ named_by (first_body bs) (plan_of image (take 720 bs))
unfolding body_of body_tests image_record first_tests first_of'
body_is bs = refl

-- its turn, open, in the order of the page
turn_is : (bs : List ℕ) → turn_of (fresh image) bs false
    ≡ pick (ltb (length bs) 12) (Err (Wait' (12 - length bs)))
    (on_fine (header_of 1 (first_codes image) 720 bs) 1 0
    (pick (ltb (length bs) 720) (Err (Wait' (720 - length bs))) (on_fine (first_body bs) 1 0 (Ok tt))))
unfolding judge_of short_of spot_of first_length codes_of total_of sum_of run_counts
turn_is bs = refl

-- the line under a plan, with the plan's sort
abbrev pub under_plan : Plan → ℕ → List ℕ → Sorted
under_plan p k bs = record { sort = p.sort; view = line_of p k bs }

module _ (bs : List ℕ) where
  -- the state behind a first record that passes
  behind : State
  behind = next_of (fresh image) bs

  walk_is : (t : Turn) → turn_of (fresh image) bs false ≡ t → first_of bs ≡ on_turn t (fresh image) (more 1 (walk_of 0 behind (drop 720 bs) false))
  unfolding walk_of spot_of first_length behind
  walk_is t e = rw (fresh_good image (omega arith) (omega arith), e)

  halted : (x : Stop) → turn_of (fresh image) bs false ≡ Err x → first_of bs ≡ stopped (fresh image) x
  halted x e = walk_is (Err x) e

  module _ (k : ℕ) where
    view_halted : (x : Stop) → turn_of (fresh image) bs false ≡ Err x → sorted_of bs k ≡ record { sort = 0; view = behind_first x (line_of zero_plan k bs) }
    unfolding view_of sort_seen
    view_halted x e = ap (λ (w : Walked). record { sort = w.state.plan.sort; view = behind_first w.stop (line_of w.state.plan k bs) }) (halted x e)

  -- a first record that passes: the state behind it is good, and has the plan that it names
  module _ (e : turn_of (fresh image) bs false ≡ Ok tt) where
    state_is : (first_of bs).state ≡ behind
    unfolding walk_of
    state_is = ap (λ (w : Walked). w.state) (walk_is (Ok tt) e) ∙ go (good_state behind)
      where
        go : (b : Bool) → (pick b (stopped behind Pause) (stopped behind bad_stop)).state ≡ behind
        go true = refl
        go false = refl

    good : good_state behind ≡ true
    good = subst (λ (s : State). good_state s ≡ true) state_is (good_kept 1 (fresh image) bs false (fresh_good image (omega arith) (omega arith)))

    stop_is : (first_of bs).stop ≡ Pause
    unfolding walk_of
    stop_is = ap (λ (w : Walked). w.stop) (walk_is (Ok tt) e) ∙ rw good

    plan_is : (first_of bs).state.plan ≡ plan_of image (take 720 bs)
    unfolding next_of behind spot_of first_length
    plan_is = ap (λ (s : State). s.plan) state_is

    pub passed_lined : Lined (plan_of image (take 720 bs))
    passed_lined = subst (λ (p : Plan). Lined p) plan_is (lined bs)

    pub passed_view : (k : ℕ) → sorted_of bs k ≡ under_plan (plan_of image (take 720 bs)) k bs
    unfolding view_of sort_seen
    passed_view k =
        ap (λ (x : Stop). record { sort = (first_of bs).state.plan.sort; view = behind_first x (line_of (first_of bs).state.plan k bs) }) stop_is
        ∙ ap (λ (p : Plan). under_plan p k bs) plan_is

-- a refusal of the first record, which starts at 0
abbrev pub first_refused : Refusal → Unshown
first_refused x = Refused (record { number = x.number; «record» = 1; place = x.place })

-- what was found in a part of it, in those words
abbrev pub as_first : {A : Type 0} → Result A Refusal → Result A Unshown
as_first (Ok a) = Ok a
as_first (Err x) = Err (first_refused x)

pub fine_first : (v : Verdict) → as_first v ≡ Ok tt → v ≡ Ok tt
fine_first (Ok u) e = refl
fine_first (Err x) e = cc

-- the view by the first record's tests, one after the other
module _ (bs : List ℕ) where
  pub view_short : length bs < 12 → Leads bs (Err (Wait (12 - length bs)))
  view_short h k = view_halted bs k (Wait' (12 - length bs)) (turn_is bs ∙ rw (lt-ltb (length bs) 12 h))

  module _ (twelve : 12 ≤ length bs) where
    -- where a part of the first record's turn finds a fault, every line's view is that refusal of record 1, which starts at 0
    faulted : (x : Refusal) → turn_of (fresh image) bs false ≡ Err (Refused' (record { number = x.number; «record» = 1; place = 0 + x.place }))
        → Leads bs (Err (first_refused x))
    faulted x e k =
        view_halted bs k _ e
        ∙ ap (λ (m : ℕ). record { sort = 0; view = Err (Refused (record { number = x.number; «record» = 1; place = m })) }) (zero-add x.place)

    pub view_header : (y : Unshown) → as_first (header_of 1 (first_codes image) 720 bs) ≡ Err y → Leads bs (Err y)
    view_header y q = go (header_of 1 (first_codes image) 720 bs) refl q
      where
        go : (v : Verdict) → header_of 1 (first_codes image) 720 bs ≡ v → as_first v ≡ Err y → Leads bs (Err y)
        go (Ok u) e q = cc
        go (Err x) e q =
            let same : first_refused x ≡ y = cc in
            subst (λ (z : Unshown). Leads bs (Err z)) same (faulted x (turn_is bs ∙ rw (le-ltb (length bs) 12 twelve, e)))

    module _ (head : header_of 1 (first_codes image) 720 bs ≡ Ok tt) where
      pub view_cut : length bs < 720 → Leads bs (Err (Wait (720 - length bs)))
      view_cut h k = view_halted bs k (Wait' (720 - length bs)) (turn_is bs ∙ rw (le-ltb (length bs) 12 twelve, head, lt-ltb (length bs) 720 h))

      module _ (whole : 720 ≤ length bs) where
        body_turn : (v : Verdict) → first_body bs ≡ v → turn_of (fresh image) bs false ≡ on_fine v 1 0 (Ok tt)
        body_turn v q = turn_is bs ∙ rw (le-ltb (length bs) 12 twelve, head, le-ltb (length bs) 720 whole, q)

        -- the plan that its numbers make where its body's tests find nothing, else their first fault
        pub view_body : Leads bs (as_first (first_of' image (take 720 bs)))
        view_body = subst (λ (y : Result Plan Refusal). Leads bs (as_first y)) (sym (body_is bs)) (go (first_body bs) refl)
          where
            go : (v : Verdict) → first_body bs ≡ v → Leads bs (as_first (named_by v (plan_of image (take 720 bs))))
            go (Ok u) e = let passes = body_turn (Ok tt) e in (passed_lined bs passes, passed_view bs passes)
            go (Err x) e = faulted x (body_turn (Err x) e)
