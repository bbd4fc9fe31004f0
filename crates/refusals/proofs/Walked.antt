-- `refused_exactly`: a walk from a fresh state that does not pause is refused, with its number, record and place, exactly where `Refusals` says that the
-- bytes are; by induction over the budget one way, over the records before the refused one the other.
use Prim.Native.Nat.{ℕ, zero, suc, ◌+◌, ◌≤◌, ◌<◌}
use mathlib.Core.Path.{◌≡◌, refl, sym, ap, ◌∙◌, subst}
use mathlib.Core.Logic.{◌↔◌, ◌≢◌}
use mathlib.Core.List.{List, [], ◌∷◌, ◌++◌, append_assoc}
use mathlib.Core.Bool.{Bool, true}
use native.Mathlib.Omega.{arith}
use lib.ListN.{length, take, drop, take-append-drop, length-append}
use lib.Seq.{take_at, drop_at, length-take-le}
use Rattle.std.specs.Prelude.{Ok, Err}
use Rattle.words.specs.Answer.{refused_as}
use Rattle.words.specs.declared.Refusal.{Refusal}
use Rattle.plan.specs.Tables.{rows}
use Rattle.plan.specs.Plan.{first_length, spot_of, total_of, plan_good, zero_plan}
use Rattle.plan.specs.declared.Plan.{Plan}
use Rattle.walk.specs.Said.{stop_as}
use Rattle.walk.specs.State.{fresh}
use Rattle.walk.specs.Walk.{turn_of, walk_of}
use Rattle.walk.specs.declared.State.{State}
use Rattle.walk.specs.declared.Walked.{Walked}
use Rattle.walk.proofs.LoopLaws.{walk_pause, walk_halt, walk_pass}
use Rattle.turns.specs.Turn.{Turn}
use Rattle.turns.specs.declared.Stop.TheVariants.{Pause, Refused}
use Rattle.turns.proofs.TurnLaws.{one_total, pass_going}
use Rattle.promises.specs.Rules.{Kind, kind_number, Due, Follow, concat}
use Rattle.promises.specs.Edition.{newest}
use Rattle.promises.specs.Newest.{First, promised}
use Rattle.promises.proofs.Turns.{pause≢refused}
use Rattle.promises.proofs.Starts.{end_to_end}
use Rattle.promises.proofs.Least.{spot_least}
use Rattle.promises.proofs.Passing.{pass_is}
use Rattle.promises.proofs.AnyEdition.{first_size, same_promised}
use Rattle.promises.proofs.FirstIs.{first_is, first_names}
use Rattle.promises.proofs.FirstPasses.{one_turn}
use Rattle.promises.proofs.LaterIs.{due, due_at, Judged, later_is}
use Rattle.promises.proofs.Accepts.{behind, good_behind, next_behind, one_due, due_some, good_fresh, planned, next_fresh, fresh_is, plan_good_lem}
use Rattle.promises.proofs.Accepts.{plan_counts, plan_lengths}
use Rattle.refusals.specs.Refusals.{Asked, first_asked, later_asked, Wrong, Before, none, some, Refuses}
use Rattle.refusals.proofs.Said.{said_refused}
use Rattle.refusals.proofs.AskedIs.{later_told, first_told, same_asked}

stop_of : (w v : Walked) → w ≡ v → w.stop ≡ v.stop
stop_of w v e = ap (λ (x : Walked). x.stop) e

-- ---- behind the first record

module _ (kind : Kind) (p : Plan) (good : plan_good (kind_number kind) p ≡ true) (cl : length p.counts ≡ rows) (ll : length p.lengths ≡ rows) (c : Bool)
  where
    -- of the bytes behind the first record and j more: records that meet their rules, and the first thing wrong behind them
    record Later (j : ℕ) (b : List ℕ) (x : Refusal) : Type 1 where
      records : List (List ℕ)
      left : List ℕ
      at : ℕ
      are : concat records ++ left ≡ b
      follow : Follow (suc j) (take (length records) (drop j (promised kind p))) records
      wrong : Wrong c (suc (j + length records)) left x.number at (drop (j + length records) (later_asked kind p))
      ordinal : x.«record» ≡ suc (suc (j + length records))
      place : x.place ≡ (due_at kind p j).start + length (concat records) + at

    refused_later : (n j : ℕ) (b : List ℕ) → suc j ≤ total_of (kind_number kind) p → (x : Refusal) → (walk_of n (behind kind p j) b c).stop ≡ Refused x
        → Later j b x
    refused_later zero j b h x e =
        absurd (pause≢refused (sym (stop_of _ _ (walk_pause (behind kind p j) b c (good_behind kind p good cl ll j h))) ∙ e))
    refused_later (suc n) j b h x e = go (refused_later n (suc j)) (turn_of (behind kind p j) b c) refl
      where
        go : ((b : List ℕ) → suc (suc j) ≤ total_of (kind_number kind) p → (x : Refusal) → (walk_of n (behind kind p (suc j)) b c).stop ≡ Refused x
            → Later (suc j) b x) → (t : Turn) → turn_of (behind kind p j) b c ≡ t → Later j b x
        go more (Err y) q =
            let z : y ≡ Refused x = sym (stop_of _ _ (walk_halt (behind kind p j) b c n y (good_behind kind p good cl ll j h) q)) ∙ e in
            let t = (later_told kind p good cl ll j b c x).0 (q ∙ ap Err z) in
            let i : j ≡ j + 0 = omega arith in
            let o : suc j + 1 ≡ suc (suc (j + 0)) = omega arith in
            let a : (due_at kind p j).start + t.0 ≡ (due_at kind p j).start + 0 + t.0 = omega arith in
            record {
              records = [];
              left = b;
              at = t.0;
              are = refl;
              follow = tt;
              wrong = subst (λ (m : ℕ). Wrong c (suc m) b x.number t.0 (drop m (later_asked kind p))) i t.1;
              ordinal = t.2 ∙ o;
              place = t.3 ∙ a;
            }
        go more (Ok u) q =
            let g = pass_going (kind_number kind) p (suc j) (due_at kind p j) b c q in
            let a = (pass_is (kind_number kind) p (suc j) (due_at kind p j) b c g (spot_least kind p good cl ll j g)).0 q in
            let l = (due_at kind p j).length in
            let size : length (take l b) ≡ l = length-take-le l b a.whole in
            let u = (later_is kind p good cl ll j g (take l b)).0 (record { size = size; head = a.head; body = a.body }) in
            let w : (walk_of n (behind kind p (suc j)) (drop l b) c).stop ≡ Refused x =
            subst (λ (st : State). (walk_of n st (drop l b) c).stop ≡ Refused x) (next_behind kind p good cl ll j b)
            (sym (stop_of _ _ (walk_pass (behind kind p j) b c n (good_behind kind p good cl ll j h) q)) ∙ e) in
            let m = more (drop l b) (omega arith) x w in
            let i : suc j + length m.records ≡ j + suc (length m.records) = omega arith in
            record {
              records = take l b ∷ m.records;
              left = m.left;
              at = m.at;
              are = joined l b (concat m.records) m.left m.are;
              follow = subst (λ (ds : List Due). Follow (suc j) (take (suc (length m.records)) ds) (take l b ∷ m.records))
                  (sym (one_due kind p good cl ll j g)) (u, m.follow);
              wrong = subst (λ (k : ℕ). Wrong c (suc k) m.left x.number m.at (drop k (later_asked kind p))) i m.wrong;
              ordinal = m.ordinal ∙ ap (λ (k : ℕ). suc (suc k)) i;
              place = m.place ∙ starts m.records m.at size;
            }
          where
            joined : (l : ℕ) (b rest left : List ℕ) → rest ++ left ≡ drop l b → (take l b ++ rest) ++ left ≡ b
            joined l b rest left e = append_assoc (take l b) rest left ∙ ap (λ (t : List ℕ). take l b ++ t) e ∙ take-append-drop l b

            starts : (rs : List (List ℕ)) (at : ℕ) → length (take (due_at kind p j).length b) ≡ (due_at kind p j).length
                → (due_at kind p (suc j)).start + length (concat rs) + at
                ≡ (due_at kind p j).start + length (take (due_at kind p j).length b ++ concat rs) + at
            starts rs at size =
                omega (arith, end_to_end (kind_number kind) p (suc j), length-append (take (due_at kind p j).length b) (concat rs))

    -- and back: such bytes are refused so, by any budget that does not stop the walk before
    later_refused : (rs : List (List ℕ)) (n j : ℕ) (left : List ℕ) (q : ℕ) (x : Refusal) → suc j ≤ total_of (kind_number kind) p
        → Follow (suc j) (take (length rs) (drop j (promised kind p))) rs
        → Wrong c (suc (j + length rs)) left x.number q (drop (j + length rs) (later_asked kind p)) → x.«record» ≡ suc (suc (j + length rs))
        → x.place ≡ (due_at kind p j).start + length (concat rs) + q → (walk_of n (behind kind p j) (concat rs ++ left) c).stop ≢ Pause
        → (walk_of n (behind kind p j) (concat rs ++ left) c).stop ≡ Refused x
    later_refused rs zero j left q x h f w o a t =
        absurd (t (stop_of _ _ (walk_pause (behind kind p j) (concat rs ++ left) c (good_behind kind p good cl ll j h))))
    later_refused [] (suc n) j left q x h f w o a t =
        let i : j + 0 ≡ j = omega arith in
        let w' : Wrong c (suc j) left x.number q (drop j (later_asked kind p)) =
        subst (λ (m : ℕ). Wrong c (suc m) left x.number q (drop m (later_asked kind p))) i w in
        let o' : x.«record» ≡ suc j + 1 = omega arith in
        let a' : x.place ≡ (due_at kind p j).start + q = omega arith in
        stop_of _ _
        (walk_halt (behind kind p j) left c n (Refused x) (good_behind kind p good cl ll j h)
        ((later_told kind p good cl ll j left c x).1 (q, w', o', a')))
    later_refused (r ∷ rs) (suc n) j left q x h f w o a t = go (later_refused rs n (suc j) left q x) (drop j (promised kind p)) refl f
      where
        -- the record passes, and the walk goes on behind it
        on : (g : suc j < total_of (kind_number kind) p) → Judged kind p j r
            → (walk_of (suc n) (behind kind p j) (r ++ (concat rs ++ left)) c).stop ≡ (walk_of n (behind kind p (suc j)) (concat rs ++ left) c).stop
        on g y =
            let rest = concat rs ++ left in
            let l = (due_at kind p j).length in
            let z = y.size in
            let t : take l (r ++ rest) ≡ r = take_at r rest l y.size in
            let pass = (pass_is (kind_number kind) p (suc j) (due_at kind p j) (r ++ rest) c g (spot_least kind p good cl ll j g)).1
            (record { whole = omega (arith, length-append r rest); head = rw t y.head; body = rw t y.body }) in
            stop_of _ _ (walk_pass (behind kind p j) (r ++ rest) c n (good_behind kind p good cl ll j h) pass)
            ∙ ap (λ (st : State). (walk_of n st (drop l (r ++ rest)) c).stop) (next_behind kind p good cl ll j (r ++ rest))
            ∙ ap (λ (b : List ℕ). (walk_of n (behind kind p (suc j)) b c).stop) (drop_at r rest l y.size)

        go : (suc (suc j) ≤ total_of (kind_number kind) p → Follow (suc (suc j)) (take (length rs) (drop (suc j) (promised kind p))) rs
            → Wrong c (suc (suc j + length rs)) left x.number q (drop (suc j + length rs) (later_asked kind p))
            → x.«record» ≡ suc (suc (suc j + length rs)) → x.place ≡ (due_at kind p (suc j)).start + length (concat rs) + q
            → (walk_of n (behind kind p (suc j)) (concat rs ++ left) c).stop ≢ Pause
            → (walk_of n (behind kind p (suc j)) (concat rs ++ left) c).stop ≡ Refused x)
            → (ds : List Due) → drop j (promised kind p) ≡ ds → Follow (suc j) (take (suc (length rs)) ds) (r ∷ rs)
            → (walk_of (suc n) (behind kind p j) ((r ++ concat rs) ++ left) c).stop ≡ Refused x
        go more [] e f = absurd f
        go more (d ∷ ds) e f =
            let g = due_some kind p good cl ll j d ds e in
            let f' : Follow (suc j) (due kind p j ∷ take (length rs) (drop (suc j) (promised kind p))) (r ∷ rs) =
            subst (λ (y : List Due). Follow (suc j) (take (suc (length rs)) y) (r ∷ rs)) (sym e ∙ one_due kind p good cl ll j g) f in
            let y = (later_is kind p good cl ll j g r).1 f'.0 in
            let i : j + suc (length rs) ≡ suc j + length rs = omega arith in
            let assoc : (r ++ concat rs) ++ left ≡ r ++ (concat rs ++ left) = append_assoc r (concat rs) left in
            let same = ap (λ (b : List ℕ). (walk_of (suc n) (behind kind p j) b c).stop) assoc ∙ on g y in
            let z = y.size in
            same
            ∙ more (omega arith) f'.1 (subst (λ (m : ℕ). Wrong c (suc m) left x.number q (drop m (later_asked kind p))) i w)
            (o ∙ ap (λ (m : ℕ). suc (suc m)) i)
            (a ∙ omega (arith, end_to_end (kind_number kind) p (suc j), length-append r (concat rs))) (λ s. t (same ∙ s))

-- ---- from the first record on

module _ (kind : Kind) (bs : List ℕ) (c : Bool) (x : Refusal) where
  pub refused_to : (n : ℕ) → (walk_of n (fresh (kind_number kind)) bs c).stop ≡ Refused x → Refuses kind c bs x
  unfolding spot_of
  refused_to zero e = absurd (pause≢refused (sym (stop_of _ _ (walk_pause (fresh (kind_number kind)) bs c (good_fresh kind))) ∙ e))
  refused_to (suc n) e = go (turn_of (fresh (kind_number kind)) bs c) refl
    where
      go : (t : Turn) → turn_of (fresh (kind_number kind)) bs c ≡ t → Refuses kind c bs x
      go (Err y) q =
          let z : y ≡ Refused x = sym (stop_of _ _ (walk_halt (fresh (kind_number kind)) bs c n y (good_fresh kind) q)) ∙ e in
          let t = (first_told kind bs c x).0 (q ∙ ap Err z) in
          record {
            passed = 0;
            start = 0;
            left = bs;
            next = first_asked kind ∷ [];
            at = t.0;
            before = none refl refl refl refl;
            wrong = t.1;
            ordinal = t.2;
            place = t.3;
          }
      go (Ok u) q =
          let l = first_length (kind_number kind) in
          let r = take l bs in
          let p = planned kind bs in
          let f = (fresh_is kind bs c).0 q in
          let size : length r ≡ l = length-take-le l bs f.0 in
          let w : (walk_of n (behind kind p 0) (drop l bs) c).stop ≡ Refused x =
          subst (λ (st : State). (walk_of n st (drop l bs) c).stop ≡ Refused x) (next_fresh kind bs)
          (sym (stop_of _ _ (walk_pass (fresh (kind_number kind)) bs c n (good_fresh kind) q)) ∙ e) in
          let m = refused_later kind p (plan_good_lem kind bs f.1) (plan_counts kind r) (plan_lengths kind r) c n 0 (drop l bs) (one_total (kind_number kind) p)
          x w in
          let i : 0 + length m.records ≡ length m.records = omega arith in
          record {
            passed = suc (length m.records);
            start = length r + length (concat m.records);
            left = m.left;
            next = drop (length m.records) (later_asked kind p);
            at = m.at;
            before = some p r m.records ((first_is kind zero_plan r size).0 f.1) m.follow refl refl
                (ap (λ (y : List ℕ). r ++ y) m.are ∙ take-append-drop l bs) refl;
            wrong = subst (λ (k : ℕ). Wrong c (suc k) m.left x.number m.at (drop k (later_asked kind p))) i m.wrong;
            ordinal = m.ordinal ∙ ap (λ (k : ℕ). suc (suc k)) i;
            place = m.place ∙ omega (arith, size, end_to_end (kind_number kind) p 0);
          }

  -- and back
  none_from : (n : ℕ) → Wrong c 0 bs x.number x.place (first_asked kind ∷ []) → x.«record» ≡ 1
      → (walk_of n (fresh (kind_number kind)) bs c).stop ≢ Pause → (walk_of n (fresh (kind_number kind)) bs c).stop ≡ Refused x
  unfolding spot_of
  none_from zero w o t = absurd (t (stop_of _ _ (walk_pause (fresh (kind_number kind)) bs c (good_fresh kind))))
  none_from (suc n) w o t =
      let a : x.place ≡ 0 + x.place = omega arith in
      stop_of _ _ (walk_halt (fresh (kind_number kind)) bs c n (Refused x) (good_fresh kind) ((first_told kind bs c x).1 (x.place, w, o, a)))

  module _ (p : Plan) (r : List ℕ) (rs : List (List ℕ)) (left : List ℕ) (begins : First kind r p) (follows : Follow 1 (take (length rs) (promised kind p)) rs)
      (are : r ++ (concat rs ++ left) ≡ bs) (at : ℕ) (wrong : Wrong c (suc (length rs)) left x.number at (drop (length rs) (later_asked kind p)))
      (ordinal : x.«record» ≡ suc (suc (length rs))) (place : x.place ≡ length r + length (concat rs) + at) where
    some_from : (n : ℕ) → (walk_of n (fresh (kind_number kind)) bs c).stop ≢ Pause → (walk_of n (fresh (kind_number kind)) bs c).stop ≡ Refused x
    unfolding spot_of
    some_from zero t = absurd (t (stop_of _ _ (walk_pause (fresh (kind_number kind)) bs c (good_fresh kind))))
    some_from (suc n) t =
        let k = kind_number kind in
        let l = first_length k in
        let q = planned kind bs in
        let size = first_size newest kind p r begins in
        let front : take l bs ≡ r = ap (take l) (sym are) ∙ take_at r (concat rs ++ left) l size in
        let rest : drop l bs ≡ concat rs ++ left = ap (drop l) (sym are) ∙ drop_at r (concat rs ++ left) l size in
        let enough : l ≤ length bs = (let y = ap length (sym are) in let z = length-append r (concat rs ++ left) in omega arith) in
        let f = (first_names kind zero_plan p (take l bs) (ap length front ∙ size)).1 (subst (λ (y : List ℕ). First kind y p) (sym front) begins) in
        let good = plan_good_lem kind bs f.0 in
        let i : length rs ≡ 0 + length rs = omega arith in
        let follows' : Follow 1 (take (length rs) (promised kind q)) rs =
        subst (λ (ds : List Due). Follow 1 (take (length rs) ds) rs) (sym (same_promised newest kind q p f.1)) follows in
        let wrong' : Wrong c (suc (0 + length rs)) left x.number at (drop (0 + length rs) (later_asked kind q)) =
        subst (λ (m : ℕ). Wrong c (suc m) left x.number at (drop m (later_asked kind q))) i
        (subst (λ (ds : List Asked). Wrong c (suc (length rs)) left x.number at (drop (length rs) ds)) (sym (same_asked kind q p f.1)) wrong) in
        let same : (walk_of (suc n) (fresh k) bs c).stop ≡ (walk_of n (behind kind q 0) (concat rs ++ left) c).stop =
        stop_of _ _ (walk_pass (fresh k) bs c n (good_fresh kind) ((fresh_is kind bs c).1 (enough, f.0)))
        ∙ ap (λ (st : State). (walk_of n st (drop l bs) c).stop) (next_fresh kind bs)
        ∙ ap (λ (b : List ℕ). (walk_of n (behind kind q 0) b c).stop) rest in
        same
        ∙ later_refused kind q good (plan_counts kind (take l bs)) (plan_lengths kind (take l bs)) c rs n 0 left at x (one_total k q) follows' wrong'
        (ordinal ∙ ap (λ (m : ℕ). suc (suc m)) i) (place ∙ omega (arith, size, end_to_end k q 0)) (λ s. t (same ∙ s))

  pub refused_from : (n : ℕ) → (walk_of n (fresh (kind_number kind)) bs c).stop ≢ Pause → Refuses kind c bs x
      → (walk_of n (fresh (kind_number kind)) bs c).stop ≡ Refused x
  refused_from n t y = go y.passed y.start y.left y.next y.before y.wrong y.ordinal y.place
    where
      go : (k start : ℕ) (left : List ℕ) (next : List Asked) → Before kind bs k start left next → Wrong c k left x.number y.at next
          → x.«record» ≡ suc k → x.place ≡ start + y.at → (walk_of n (fresh (kind_number kind)) bs c).stop ≡ Refused x
      go k start left next (none ek es el en) w o a =
          let place : y.at ≡ x.place = omega arith in
          none_from n (subst (λ (i : ℕ). Wrong c i bs x.number x.place (first_asked kind ∷ [])) ek
          (subst (λ (b : List ℕ). Wrong c k b x.number x.place (first_asked kind ∷ [])) el
          (subst (λ (q : ℕ). Wrong c k left x.number q (first_asked kind ∷ [])) place
          (subst (Wrong c k left x.number y.at) en w)))) (o ∙ ap suc ek) t
      go k start left next (some p r rs f g ek es are en) w o a =
          some_from p r rs left f g are y.at (subst (λ (i : ℕ). Wrong c i left x.number y.at (drop (length rs) (later_asked kind p))) ek
          (subst (Wrong c k left x.number y.at) en w)) (o ∙ ap suc ek) (a ∙ ap (λ (i : ℕ). i + y.at) es) n t

-- the first record alone
pub first_refused : (kind : Kind) (bs : List ℕ) (c : Bool) (x : Refusal)
    → ((walk_of 1 (fresh (kind_number kind)) bs c).stop ≡ Refused x) ↔ (Wrong c 0 bs x.number x.place (first_asked kind ∷ []) × (x.«record» ≡ 1))
unfolding spot_of
first_refused kind bs c x = (λ e. go e (turn_of (fresh (kind_number kind)) bs c) refl, λ h. none_from kind bs c x 1 h.0 h.1 (halts h))
  where
    go : (walk_of 1 (fresh (kind_number kind)) bs c).stop ≡ Refused x → (t : Turn) → turn_of (fresh (kind_number kind)) bs c ≡ t
        → Wrong c 0 bs x.number x.place (first_asked kind ∷ []) × (x.«record» ≡ 1)
    go e (Ok u) q = absurd (pause≢refused (sym (stop_of _ _ (one_turn (fresh (kind_number kind)) bs c (good_fresh kind) q)) ∙ e))
    go e (Err y) q =
        let z : y ≡ Refused x = sym (stop_of _ _ (walk_halt (fresh (kind_number kind)) bs c 0 y (good_fresh kind) q)) ∙ e in
        let t = (first_told kind bs c x).0 (q ∙ ap Err z) in
        let a : t.0 ≡ x.place = (let b = t.3 in omega arith) in
        (subst (λ (i : ℕ). Wrong c 0 bs x.number i (first_asked kind ∷ [])) a t.1, t.2)

    halts : Wrong c 0 bs x.number x.place (first_asked kind ∷ []) × (x.«record» ≡ 1) → (walk_of 1 (fresh (kind_number kind)) bs c).stop ≢ Pause
    halts h e =
        let a : x.place ≡ 0 + x.place = omega arith in
        let t = (first_told kind bs c x).1 (x.place, h.0, h.1, a) in
        pause≢refused (sym e ∙ stop_of _ _ (walk_halt (fresh (kind_number kind)) bs c 0 (Refused x) (good_fresh kind) t))

-- for any bytes, open or closed, and any budget that does not stop the walk: refused so exactly where the rules say so
pub refused_exactly : (kind : Kind) (bs : List ℕ) (c : Bool) (n : ℕ) → (walk_of n (fresh (kind_number kind)) bs c).stop ≢ Pause → (x : Refusal)
    → (stop_as (walk_of n (fresh (kind_number kind)) bs c).stop ≡ refused_as x) ↔ Refuses kind c bs x
refused_exactly kind bs c n t x = (
  λ e. refused_to kind bs c x n (said_refused _ x e),
  λ y. ap stop_as (refused_from kind bs c x n t y),
)
