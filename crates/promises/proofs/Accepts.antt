-- `accepts`: for every kind, a closed walk from a fresh state ends "complete" exactly where the bytes are a file of that kind, given a budget of one
-- more than the planned records; by induction over the budget one way, over the file's records the other.
use Prim.Native.Nat.{ℕ, zero, suc, ◌≤◌, ◌<◌}
use mathlib.Core.Path.{◌≡◌, refl, sym, ap, ◌∙◌, subst}
use mathlib.Core.List.{List, [], ◌∷◌, ◌++◌}
use mathlib.Core.Bool.{Bool, true}
use mathlib.Core.Logic.{◌↔◌}
use native.Mathlib.Omega.{arith}
use native.Mathlib.Numerals.{add-one}
use lib.ListN.{length, take, drop, length-append, take-append-drop, drop_of_length-le, length-drop}
use lib.Seq.{drop-cons, length-take-le, take_at, drop_at}
use borrow.Author.Tests.{le-leb}
use Rattle.std.specs.Prelude.{Ok, Err}
use Rattle.std.proofs.lemmas.List.{nil_from_length}
use Rattle.words.specs.Tests.{within_of}
use Rattle.words.proofs.Laws.{both_make, within_true}
use Rattle.plan.specs.Tables.{rows}
use Rattle.plan.specs.Plan.{first_length, total_of, spot_of, plan_good, zero_plan, codes_of}
use Rattle.plan.specs.declared.Plan.{Plan}
use Rattle.leader.specs.Leader.{counts_of, lengths_of}
use Rattle.bodies.specs.Named.{plan_of}
use Rattle.bodies.proofs.Named.{first_good}
use Rattle.walk.specs.State.{fresh, good_state, next_due}
use Rattle.walk.specs.Walk.{turn_of, next_of, walk_of}
use Rattle.walk.specs.declared.State.{State}
use Rattle.turns.specs.declared.Stop.TheVariants.{Complete, Pause}
use Rattle.walk.specs.declared.Walked.{Walked}
use Rattle.walk.proofs.GoodLaws.{good_some, fresh_good}
use Rattle.walk.proofs.LoopLaws.{walk_pause}
use Rattle.turns.proofs.TurnLaws.{one_total, pass_going}
use Rattle.walk.proofs.TurnLaws.{next_as_later}
use Rattle.promises.specs.Rules.{Kind, volume, leader, image, trailer, kind_number, Due, text_record, Follow, concat}
use Rattle.promises.specs.Edition.{newest}
use Rattle.promises.specs.Newest.{First, promised, Accepted}
use Rattle.promises.proofs.Passing.{complete_is, pass_is, Ends, now, later, ends_is}
use Rattle.promises.proofs.FirstIs.{first_is, first_names, Fault_free}
use Rattle.promises.proofs.AnyEdition.{first_size, same_promised}
use Rattle.promises.proofs.LaterIs.{due, due_at, later_is, promised_length}
use Rattle.promises.proofs.Least.{spot_least, first_least}

kind_known : (kind : Kind) → within_of 1 (kind_number kind) 4 ≡ true
kind_known volume = refl
kind_known leader = refl
kind_known image = refl
kind_known trailer = refl

-- ---- behind the first record

-- the walk of a plan when the first record and k more are passed
abbrev pub behind : Kind → Plan → ℕ → State
behind kind p k = record { kind = kind_number kind; passed = suc k; plan = p }

-- the bytes are the records due from place k behind the first on
record Rest (kind : Kind) (p : Plan) (k : ℕ) (bs : List ℕ) : Type 0 where
  records : List (List ℕ)
  are : concat records ≡ bs
  follow : Follow (suc k) (drop k (promised kind p)) records

module _ (kind : Kind) (p : Plan) (good : plan_good (kind_number kind) p ≡ true) (cl : length p.counts ≡ rows) (ll : length p.lengths ≡ rows) where
  pub good_behind : (k : ℕ) → suc k ≤ total_of (kind_number kind) p → good_state (behind kind p k) ≡ true
  good_behind k h = good_some (behind kind p k) (λ e. omega arith) ∙ both_make _ _ (kind_known kind) (both_make _ _ good (le-leb _ _ h))

  pub next_behind : (k : ℕ) (bs : List ℕ) → next_of (behind kind p k) bs ≡ behind kind p (suc k)
  next_behind k bs =
      sym (next_as_later (behind kind p k) bs p (λ e. omega arith) refl)
      ∙ ap (λ (i : ℕ). record { kind = kind_number kind; passed = i; plan = p }) (add-one (suc k))

  pub all_passed : (k : ℕ) → total_of (kind_number kind) p ≤ suc k → drop k (promised kind p) ≡ []
  all_passed k h = drop_of_length-le (promised kind p) {i = k} (let e = promised_length kind p cl ll in omega arith)

  pub one_due : (k : ℕ) → suc k < total_of (kind_number kind) p → drop k (promised kind p) ≡ due kind p k ∷ drop (suc k) (promised kind p)
  one_due k h = drop-cons (promised kind p) k text_record (let e = promised_length kind p cl ll in omega arith)

  walk_to : (n k : ℕ) (bs : List ℕ) → suc k ≤ total_of (kind_number kind) p → (walk_of n (behind kind p k) bs true).stop ≡ Complete → Rest kind p k bs
  walk_to zero k bs h e =
      absurd (let q : Pause ≡ Complete = sym (ap (λ (w : Walked). w.stop) (walk_pause (behind kind p k) bs true (good_behind k h))) ∙ e in
      cc)
  walk_to (suc n) k bs h e = go (walk_to n (suc k)) ((ends_is (behind kind p k) bs n (good_behind k h)).0 e)
    where
      go : ((bs : List ℕ) → suc (suc k) ≤ total_of (kind_number kind) p → (walk_of n (behind kind p (suc k)) bs true).stop ≡ Complete → Rest kind p (suc k) bs)
          → Ends (behind kind p k) bs n (good_behind k h) → Rest kind p k bs
      go more (now q) =
          let c = (complete_is (kind_number kind) p (suc k) (due_at kind p k) bs).0 q in
          record {
            records = [];
            are = sym (nil_from_length bs c.1);
            follow = subst (λ (ds : List Due). Follow (suc k) ds []) (sym (all_passed k c.0)) tt;
          }
      go more (later q w) =
          let g = pass_going (kind_number kind) p (suc k) (due_at kind p k) bs true q in
          let a = (pass_is (kind_number kind) p (suc k) (due_at kind p k) bs true g (spot_least kind p good cl ll k g)).0 q in
          let l = (due_at kind p k).length in
          let u = (later_is kind p good cl ll k g (take l bs)).0 (record { size = length-take-le l bs a.whole; head = a.head; body = a.body }) in
          let m = more (drop l bs) (omega arith) (subst (λ (st : State). (walk_of n st (drop l bs) true).stop ≡ Complete) (next_behind k bs) w) in
          record {
            records = take l bs ∷ m.records;
            are = ap (λ (x : List ℕ). take l bs ++ x) m.are ∙ take-append-drop l bs;
            follow = subst (λ (ds : List Due). Follow (suc k) ds (take l bs ∷ m.records)) (sym (one_due k g)) (u, m.follow);
          }

  -- a list of due records that is empty, or is not
  due_none : (k : ℕ) → drop k (promised kind p) ≡ [] → total_of (kind_number kind) p ≤ suc k
  due_none k e = let z = promised_length kind p cl ll in let y = ap length e in let x = length-drop k (promised kind p) in omega arith

  pub due_some : (k : ℕ) (d : Due) (ds : List Due) → drop k (promised kind p) ≡ d ∷ ds → suc k < total_of (kind_number kind) p
  due_some k d ds e = let z = promised_length kind p cl ll in let y = ap length e in let x = length-drop k (promised kind p) in omega arith

  walk_from : (rs : List (List ℕ)) (n k : ℕ) → suc k ≤ total_of (kind_number kind) p → length rs < n → Follow (suc k) (drop k (promised kind p)) rs
      → (walk_of n (behind kind p k) (concat rs) true).stop ≡ Complete
  walk_from rs zero k h b f = absurd (omega arith)
  walk_from [] (suc n) k h b f = go (drop k (promised kind p)) refl f
    where
      go : (ds : List Due) → drop k (promised kind p) ≡ ds → Follow (suc k) ds [] → (walk_of (suc n) (behind kind p k) [] true).stop ≡ Complete
      go [] e f =
          (ends_is (behind kind p k) [] n (good_behind k h)).1 (now ((complete_is (kind_number kind) p (suc k) (due_at kind p k) []).1 (due_none k e, refl)))
      go (d ∷ ds) e f = absurd f
  walk_from (r ∷ rs) (suc n) k h b f = go (walk_from rs n (suc k)) (drop k (promised kind p)) refl f
    where
      go : (suc (suc k) ≤ total_of (kind_number kind) p → length rs < n → Follow (suc (suc k)) (drop (suc k) (promised kind p)) rs
          → (walk_of n (behind kind p (suc k)) (concat rs) true).stop ≡ Complete)
          → (ds : List Due) → drop k (promised kind p) ≡ ds → Follow (suc k) ds (r ∷ rs)
          → (walk_of (suc n) (behind kind p k) (r ++ concat rs) true).stop ≡ Complete
      go more [] e f = absurd f
      go more (d ∷ ds) e f =
          let g = due_some k d ds e in
          let f' : Follow (suc k) (due kind p k ∷ drop (suc k) (promised kind p)) (r ∷ rs) =
          subst (λ (x : List Due). Follow (suc k) x (r ∷ rs)) (sym e ∙ one_due k g) f in
          let j = (later_is kind p good cl ll k g r).1 f'.0 in
          let l = (due_at kind p k).length in
          let t : take l (r ++ concat rs) ≡ r = take_at r (concat rs) l j.size in
          let u : drop l (r ++ concat rs) ≡ concat rs = drop_at r (concat rs) l j.size in
          let a = length-append r (concat rs) in
          let z = j.size in
          (ends_is (behind kind p k) (r ++ concat rs) n (good_behind k h)).1
          (later ((pass_is (kind_number kind) p (suc k) (due_at kind p k) (r ++ concat rs) true g (spot_least kind p good cl ll k g)).1
          (record { whole = omega arith; head = rw t j.head; body = rw t j.body }))
          (subst (λ (x : List ℕ). (walk_of n (next_of (behind kind p k) (r ++ concat rs)) x true).stop ≡ Complete) (sym u)
          (subst (λ (st : State). (walk_of n st (concat rs) true).stop ≡ Complete) (sym (next_behind k (r ++ concat rs)))
          (more (omega arith) (omega arith) f'.1))))

-- ---- the first record

-- the plan that a first record names has a number for each row of slots and facility pairs
pub plan_counts : (kind : Kind) (r : List ℕ) → length (plan_of (kind_number kind) r).counts ≡ rows
unfolding plan_of counts_of
plan_counts volume r = refl
plan_counts leader r = refl
plan_counts image r = refl
plan_counts trailer r = refl

pub plan_lengths : (kind : Kind) (r : List ℕ) → length (plan_of (kind_number kind) r).lengths ≡ rows
unfolding plan_of lengths_of
plan_lengths volume r = refl
plan_lengths leader r = refl
plan_lengths image r = refl
plan_lengths trailer r = refl

pub kind_low : (kind : Kind) → (1 ≤ kind_number kind) × (kind_number kind ≤ 4)
kind_low kind = within_true 1 (kind_number kind) 4 (kind_known kind)

pub good_fresh : (kind : Kind) → good_state (fresh (kind_number kind)) ≡ true
good_fresh kind = fresh_good (kind_number kind) (kind_low kind).0 (kind_low kind).1

module _ (kind : Kind) (bs : List ℕ) where
  -- as many bytes as a first record has, and the plan that they name
  abbrev front : List ℕ
  front = take (first_length (kind_number kind)) bs

  abbrev pub planned : Plan
  planned = plan_of (kind_number kind) front

  pub next_fresh : next_of (fresh (kind_number kind)) bs ≡ behind kind planned 0
  unfolding next_of spot_of
  next_fresh = refl

  fresh_going : turn_of (fresh (kind_number kind)) bs true ≡ Err Complete → ⊥
  fresh_going e =
      let h = (complete_is (kind_number kind) zero_plan 0 (next_due (fresh (kind_number kind))) bs).0 e in
      omega (arith, one_total (kind_number kind) zero_plan)

  pub fresh_is : (c : Bool)
      → (turn_of (fresh (kind_number kind)) bs c ≡ Ok tt) ↔ ((first_length (kind_number kind) ≤ length bs) × Fault_free (kind_number kind) zero_plan front)
  unfolding spot_of codes_of
  fresh_is c =
      let i = pass_is (kind_number kind) zero_plan 0 (next_due (fresh (kind_number kind))) bs c (one_total (kind_number kind) zero_plan) (first_least kind) in
      (λ e. let q = i.0 e in (q.whole, record { head = q.head; body = q.body }), λ h. i.1 (record { whole = h.0; head = h.1.head; body = h.1.body }))

  pub plan_good_lem : Fault_free (kind_number kind) zero_plan front → plan_good (kind_number kind) planned ≡ true
  plan_good_lem f = first_good (kind_number kind) zero_plan front (kind_low kind).0 (kind_low kind).1 f.body

-- whatever the budget, "complete" is said only of a file of the rules
pub complete_accepted : (kind : Kind) (bs : List ℕ) (n : ℕ) → (walk_of n (fresh (kind_number kind)) bs true).stop ≡ Complete → Accepted kind bs
unfolding spot_of
complete_accepted kind bs zero e =
    absurd (let q : Pause ≡ Complete = sym (ap (λ (w : Walked). w.stop) (walk_pause (fresh (kind_number kind)) bs true (good_fresh kind))) ∙ e in
    cc)
complete_accepted kind bs (suc n) e = go ((ends_is (fresh (kind_number kind)) bs n (good_fresh kind)).0 e)
  where
    go : Ends (fresh (kind_number kind)) bs n (good_fresh kind) → Accepted kind bs
    go (now q) = absurd (fresh_going kind bs q)
    go (later q w) =
        let f = (fresh_is kind bs true).0 q in
        let r = take (first_length (kind_number kind)) bs in
        let p = plan_of (kind_number kind) r in
        let m =
        walk_to kind p (plan_good_lem kind bs f.1) (plan_counts kind r) (plan_lengths kind r) n 0 (drop (first_length (kind_number kind)) bs)
        (one_total (kind_number kind) p)
        (subst (λ (st : State). (walk_of n st (drop (first_length (kind_number kind)) bs) true).stop ≡ Complete) (next_fresh kind bs) w) in
        record {
          plan = p;
          first = r;
          rest = m.records;
          are = ap (λ (x : List ℕ). r ++ x) m.are ∙ take-append-drop (first_length (kind_number kind)) bs;
          begins = (first_is kind zero_plan r (length-take-le (first_length (kind_number kind)) bs f.0)).0 f.1;
          follows = m.follow;
        }

-- as many records follow as are promised
pub follow_length : (k : ℕ) (ds : List Due) (rs : List (List ℕ)) → Follow k ds rs → length rs ≡ length ds
follow_length k [] [] f = refl
follow_length k [] (r ∷ rs) f = absurd f
follow_length k (d ∷ ds) [] f = absurd f
follow_length k (d ∷ ds) (r ∷ rs) f = ap suc (follow_length (suc k) ds rs f.1)

-- a file of the rules is walked to "complete" where the budget is more than the planned records
pub accepted_complete : (kind : Kind) (bs : List ℕ) (n : ℕ) → total_of (kind_number kind) (planned kind bs) < n → Accepted kind bs
    → (walk_of n (fresh (kind_number kind)) bs true).stop ≡ Complete
unfolding spot_of
accepted_complete kind bs zero b a = absurd (omega arith)
accepted_complete kind bs (suc n) b a =
    let size = first_size newest kind a.plan a.first a.begins in
    let l = first_length (kind_number kind) in
    let t : take l bs ≡ a.first = ap (take l) (sym a.are) ∙ take_at a.first (concat a.rest) l size in
    let u : drop l bs ≡ concat a.rest = ap (drop l) (sym a.are) ∙ drop_at a.first (concat a.rest) l size in
    let begins : First kind (take l bs) a.plan = subst (λ (r : List ℕ). First kind r a.plan) (sym t) a.begins in
    let long : length (take l bs) ≡ l = ap length t ∙ size in
    let enough : l ≤ length bs = (let x = ap length (sym a.are) in let y = length-append a.first (concat a.rest) in omega arith) in
    let f = (first_names kind zero_plan a.plan (take l bs) long).1 begins in
    let p = planned kind bs in
    let same : promised kind p ≡ promised kind a.plan = same_promised newest kind p a.plan f.1 in
    let follow : Follow 1 (promised kind p) a.rest = subst (λ (ds : List Due). Follow 1 ds a.rest) (sym same) a.follows in
    let few : length a.rest < n = (let x = follow_length 1 (promised kind p) a.rest follow in
    let y = promised_length kind p (plan_counts kind (take l bs)) (plan_lengths kind (take l bs)) in omega arith) in
    let w = walk_from kind p (plan_good_lem kind bs f.0) (plan_counts kind (take l bs)) (plan_lengths kind (take l bs)) a.rest n 0
    (one_total (kind_number kind) p) few follow in
    (ends_is (fresh (kind_number kind)) bs n (good_fresh kind)).1
    (later ((fresh_is kind bs true).1 (enough, f.0))
    (goes u (subst (λ (st : State). (walk_of n st (concat a.rest) true).stop ≡ Complete) (sym (next_fresh kind bs)) w)))
  where
    goes : {x : List ℕ} → drop (first_length (kind_number kind)) bs ≡ x → (walk_of n (next_of (fresh (kind_number kind)) bs) x true).stop ≡ Complete
        → (walk_of n (next_of (fresh (kind_number kind)) bs) (drop (next_due (fresh (kind_number kind))).length bs) true).stop ≡ Complete
    goes e h = subst (λ (y : List ℕ). (walk_of n (next_of (fresh (kind_number kind)) bs) y true).stop ≡ Complete) (sym e) h

pub accepts : (kind : Kind) (bs : List ℕ) (n : ℕ) → total_of (kind_number kind) (planned kind bs) < n
    → ((walk_of n (fresh (kind_number kind)) bs true).stop ≡ Complete) ↔ Accepted kind bs
accepts kind bs n b = (complete_accepted kind bs n, accepted_complete kind bs n b)
