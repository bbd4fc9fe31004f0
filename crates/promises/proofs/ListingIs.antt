-- In whatever pieces its input comes, the listing's rows are those of the whole input, and the last is the closed walk's answer, unless its lines are too
-- long to be held: by induction over its turns.
use Prim.Native.Nat.{ℕ, zero, suc, ◌+◌, ◌-◌, ◌≤◌, ◌<◌}
use mathlib.Core.Path.{◌≡◌, refl, sym, ap, ◌∙◌, subst}
use mathlib.Core.Bool.{Bool, true, false, false≢true}
use mathlib.Core.Logic.{◌↔◌, ◌≢◌, ◌⊎◌, inl, inr, ⊎_elim}
use mathlib.Core.List.{List, [], ◌∷◌, ◌++◌, append_assoc, append-nil}
use native.Mathlib.Omega.{arith}
use lib.Dec.{eqb, ltb, leb}
use lib.ListN.{length, take, drop, length-append, drop_of_length-le}
use lib.Seq.{take_at}
use borrow.Author.Tests.{eqb-false, leb-true, leb-false, ltb-true, lt-ltb, ne_eqb}
use Rattle.std.specs.Prelude.{Ok, Err}
use Rattle.words.specs.Tests.{pick}
use Rattle.words.proofs.Laws.{cases}
use Rattle.plan.specs.Plan.{image as image', first_length, total_of, spot_of, due_of}
use Rattle.plan.specs.declared.Plan.{Plan}
use Rattle.plan.specs.declared.Spot.{Spot}
use Rattle.bodies.specs.Bodies.{body_of}
use Rattle.walk.specs.State.{fresh, good_state, next_due}
use Rattle.headers.specs.Header.{header_of}
use Rattle.turns.specs.Turn.{refused_at, ended_of, short_of, on_fine, judge_of, Turn}
use Rattle.walk.specs.Walk.{turn_of, next_of, walk_of, more}
use Rattle.walk.specs.declared.State.{State}
use Rattle.turns.specs.declared.Stop.{Stop}
use Rattle.turns.specs.declared.Stop.TheVariants.{Wait, Pause, Complete as Complete', Refused as Refused'}
use Rattle.walk.specs.declared.Walked.{Walked}
use Rattle.walk.proofs.KeptLaws.{next_kind}
use Rattle.walk.proofs.LoopLaws.{walk_pause, walk_halt, walk_pass}
use Rattle.turns.proofs.TurnLaws.{pass_going}
use Rattle.walk.proofs.TurnLaws.{good_next}
use Rattle.lines.proofs.LinedLaws.{lined_good}
use Rattle.plan.proofs.CodeLaws.{line_spot, image_total}
use Rattle.listing.specs.Rows.{longest, passed_row, wanted, say_of, too_long, told_of}
use Rattle.rows.specs.declared.Row.{Row}
use Rattle.rows.specs.declared.Row.TheVariants.{TooLong, Refused}
use Rattle.words.specs.declared.Refusal.{Refusal}
use Rattle.verdicts.specs.Tests.{Verdict}
use Rattle.promises.specs.Demands.{planned_total}
use Rattle.listing.specs.declared.Say.TheVariants.{Want, Next, Last}
use Rattle.listing.specs.declared.Told.{Told}
use Rattle.listing.proofs.TurnLaws.{told_long, told_is}
use Rattle.promises.specs.Listing.{Lists, piece, ended, next, last, closing, closing_by, closing_row, rows_of}
use Rattle.promises.specs.Rules.{image}
use Rattle.promises.proofs.Accepts.{good_fresh}
use Rattle.promises.proofs.Counted.{open_never_complete, closed_never_waits}
use Rattle.promises.proofs.FirstPasses.{one_turn}
use Rattle.promises.proofs.PlanNamed.{plan_kept, enough_planned}
use Rattle.promises.proofs.Stays.{refusal_stays, budget_stays}
use Rattle.promises.proofs.Turns.{halt_same, pass≢halt, turn_room, turn_refusal_stays, turn_pass_stays, next_stays, rest_stays, never_pause}
use Rattle.promises.proofs.Turns.{refused≢pause}
use Rattle.promises.proofs.Turns.{wait≢pause, wait≢refused, complete≢pause, wait≢complete}

-- ---- how long the next record is

-- a record that is due has twelve bytes at least
pub due_least : (st : State) → good_state st ≡ true → st.kind ≡ image' → st.passed < total_of image' st.plan
    → 12 ≤ (due_of image' st.plan st.passed).length
unfolding spot_of first_length
due_least st g k h = go st.passed h
  where
    go : (i : ℕ) → i < total_of image' st.plan → 12 ≤ (due_of image' st.plan i).length
    go zero h = omega arith
    go (suc i) h =
        let t = image_total st.plan in
        let l = lined_good st g k in
        let e : (due_of image' st.plan (suc i)).length ≡ st.plan.l = ap (λ (s : Spot). s.length) (line_spot st.plan i (omega arith)) in
        let r = l.room (omega arith) in
        omega arith

-- ---- an open turn that waits

-- behind the last record, or for the rest of the header, or for the rest of the record
pub data Waiting (st : State) (held : List ℕ) (n : ℕ) : Type 0 where
  behind : total_of st.kind st.plan ≤ st.passed → Waiting st held n
  header_rest : st.passed < total_of st.kind st.plan → length held + n ≡ 12 → 1 ≤ n → Waiting st held n
  record_rest : st.passed < total_of st.kind st.plan → length held + n ≡ (next_due st).length → 1 ≤ n → Waiting st held n

waited : {m n : ℕ} → Wait m ≡ Wait n → m ≡ n
waited e = cc

waits : (st : State) (held : List ℕ) (n : ℕ) → turn_of st held false ≡ Err (Wait n) → Waiting st held n
unfolding judge_of short_of
waits st held n e =
    go (leb (total_of st.kind st.plan) st.passed) refl (ltb (length held) 12) refl
    (header_of (st.passed + 1) (next_due st).codes (next_due st).length held) (ltb (length held) (next_due st).length) refl
    (body_of st.kind (next_due st).run st.plan st.passed (take (next_due st).length held)) e
  where
    go : (x : Bool) → leb (total_of st.kind st.plan) st.passed ≡ x → (y : Bool) → ltb (length held) 12 ≡ y → (h : Verdict)
        → (z : Bool) → ltb (length held) (next_due st).length ≡ z → (t : Verdict)
        → pick x (Err (ended_of (st.passed + 1) (next_due st).start (length held) false))
        (pick y (Err (pick false (refused_at (st.passed + 1) (next_due st).start 2 0) (Wait (12 - length held))))
        (on_fine h (st.passed + 1) (next_due st).start
        (pick z (Err (pick false (refused_at (st.passed + 1) (next_due st).start 2 0) (Wait ((next_due st).length - length held))))
        (on_fine t (st.passed + 1) (next_due st).start (Ok tt))))) ≡ Err (Wait n)
        → Waiting st held n
    go true ex y ey h z ez t e = behind (leb-true _ _ ex)
    go false ex true ey h z ez t e = let l : length held < 12 = ltb-true _ _ ey in
        let m : 12 - length held ≡ n = waited (halt_same e) in header_rest (leb-false _ _ ex) (omega arith) (omega arith)
    go false ex false ey (Err r) z ez t e = absurd (wait≢refused (sym (halt_same e)))
    go false ex false ey (Ok u) true ez t e =
        let l : length held < (next_due st).length = ltb-true _ _ ez in
        let m : (next_due st).length - length held ≡ n = waited (halt_same e) in record_rest (leb-false _ _ ex) (omega arith) (omega arith)
    go false ex false ey (Ok u) false ez (Err r) e = absurd (wait≢refused (sym (halt_same e)))
    go false ex false ey (Ok u) false ez (Ok v) e = absurd (pass≢halt e)

-- ---- what a turn says, back to what the walk by one record did

-- the bytes held are of the next record alone, or nothing is due any more
abbrev pub Room : State → List ℕ → Type 0
Room st held = (length held ≤ (next_due st).length) ⊎ (total_of st.kind st.plan ≤ st.passed)

-- the walk of the whole, closed: its row, or lines that are too long
abbrev Closes : State → List ℕ → Row → Type 0
Closes st bs row =
    (b : ℕ) → (walk_of b st bs true).stop ≢ Pause
    → (row ≡ closing_row (walk_of b st bs true)) ⊎ ((row ≡ TooLong) × (longest < (walk_of b st bs true).state.plan.l))

want≢next : {m : ℕ} {r : Row} → Want m ≡ Next r → ⊥
want≢next e = cc

pub want≢last : {m : ℕ} {r : Row} → Want m ≡ Last r → ⊥
want≢last e = cc

pub next≢last : {r q : Row} → Next r ≡ Last q → ⊥
next≢last e = cc

wanted_same : {m n : ℕ} → Want m ≡ Want n → m ≡ n
wanted_same e = cc

last_same : {r q : Row} → Last r ≡ Last q → r ≡ q
last_same e = cc

-- what is said where the lines are too long, and where they are not: what the walk by one record did
module _ (st : State) (held : List ℕ) (c : Bool) where
  pub say_long : too_long st ≡ true → (told_of st held c).say ≡ Last TooLong
  say_long e = ap (λ (t : Told). t.say) (sym (told_long st held c e))

  pub say_short : too_long st ≡ false → (told_of st held c).say ≡ say_of st held (walk_of 1 st held c).state (walk_of 1 st held c).stop
  say_short e = ap (λ (t : Told). t.say) (told_is st held c (walk_of 1 st held c) e refl)

-- too long: a first record has passed
long_passed : (st : State) → too_long st ≡ true → (st.passed ≡ 0 → ⊥) × (longest < st.plan.l)
unfolding too_long
long_passed st e = go (eqb st.passed 0) refl e
  where
    go : (b : Bool) → eqb st.passed 0 ≡ b → pick b false (ltb longest st.plan.l) ≡ true → (st.passed ≡ 0 → ⊥) × (longest < st.plan.l)
    go true q e = absurd (false≢true e)
    go false q e = (eqb-false _ _ q, ltb-true _ _ e)

-- by the stop of the walk by one record
module _ (st : State) (held : List ℕ) (after : State) where
  pub say_want : (x : Stop) (m : ℕ) → say_of st held after x ≡ Want m → (n : ℕ) × (x ≡ Wait n) × (m ≡ wanted n)
  say_want (Wait n) m e = (n, refl, sym (wanted_same e))
  say_want Pause m e = absurd (want≢next (sym e))
  say_want Complete' m e = absurd (want≢last (sym e))
  say_want (Refused' r) m e = absurd (want≢last (sym e))

  pub say_next : (x : Stop) (r : Row) → say_of st held after x ≡ Next r → x ≡ Pause
  say_next (Wait n) r e = absurd (want≢next e)
  say_next Pause r e = refl
  say_next Complete' r e = absurd (next≢last (sym e))
  say_next (Refused' q) r e = absurd (next≢last (sym e))

  say_last : (x : Stop) (r : Row) → say_of st held after x ≡ Last r → (r ≡ closing_by after x) × (x ≢ Pause) × ((n : ℕ) → x ≡ Wait n → ⊥)
  say_last (Wait n) r e = absurd (want≢last e)
  say_last Pause r e = absurd (next≢last e)
  say_last Complete' r e = (sym (last_same e), λ q. complete≢pause q, λ n q. wait≢complete (sym q))
  say_last (Refused' q) r e = (sym (last_same e), λ z. refused≢pause z, λ n z. wait≢refused (sym z))

-- ---- one turn of the walk

module _ (st : State) (held : List ℕ) (good : good_state st ≡ true) where
  -- a wait of the walk by one record is a turn's
  pub turn_waits : (n : ℕ) → (walk_of 1 st held false).stop ≡ Wait n → turn_of st held false ≡ Err (Wait n)
  turn_waits n e = go (turn_of st held false) refl
    where
      go : (t : Turn) → turn_of st held false ≡ t → turn_of st held false ≡ Err (Wait n)
      go (Ok u) q = absurd (wait≢pause (sym e ∙ ap (λ (w : Walked). w.stop) (one_turn st held false good q)))
      go (Err x) q = q ∙ ap Err (sym (ap (λ (w : Walked). w.stop) (walk_halt st held false 0 x good q)) ∙ e)

  pub turn_passes : (walk_of 1 st held false).stop ≡ Pause → turn_of st held false ≡ Ok tt
  turn_passes e = go (turn_of st held false) refl
    where
      go : (t : Turn) → turn_of st held false ≡ t → turn_of st held false ≡ Ok tt
      go (Ok u) q = q
      go (Err x) q = absurd (never_pause st held false x q (sym (ap (λ (w : Walked). w.stop) (walk_halt st held false 0 x good q)) ∙ e))

  -- what is wanted fits the next record
  pub want_fits : st.kind ≡ image' → (n : ℕ) → (walk_of 1 st held false).stop ≡ Wait n → (p : List ℕ) → length p ≤ wanted n → Room st (held ++ p)
  unfolding wanted
  want_fits k n e p l = go (waits st held n (turn_waits n e))
    where
      some : 1 ≤ n → pick (eqb n 0) 1 n ≡ n
      some h = ap (λ (b : Bool). pick b 1 n) (ne_eqb n 0 (λ z. omega arith))

      least : st.passed < total_of st.kind st.plan → 12 ≤ (next_due st).length
      least h =
          subst (λ (i : ℕ). 12 ≤ (due_of i st.plan st.passed).length) (sym k)
          (due_least st good k (subst (λ (i : ℕ). st.passed < total_of i st.plan) k h))

      go : Waiting st held n → Room st (held ++ p)
      go (behind h) = inr h
      go (header_rest h q o) = let a = length-append held p in let b = some o in let c = least h in inl (omega arith)
      go (record_rest h q o) = let a = length-append held p in let b = some o in inl (omega arith)

-- a budget that does not pause is not 0
pub budget_some : (b : ℕ) (st : State) (bs : List ℕ) → good_state st ≡ true → (walk_of b st bs true).stop ≢ Pause → (d : ℕ) × (b ≡ suc d)
budget_some zero st bs g h = absurd (h (ap (λ (w : Walked). w.stop) (walk_pause st bs true g)))
budget_some (suc d) st bs g h = (d, refl)

-- ---- the listing

closes_assoc : (st : State) (held p rest : List ℕ) (row : Row) → Closes st ((held ++ p) ++ rest) row → Closes st (held ++ (p ++ rest)) row
closes_assoc st held p rest row c = subst (λ (bs : List ℕ). Closes st bs row) (append_assoc held p rest) c

-- the last row where nothing more is read: closed, or a refusal while more may come
closes_long : (st : State) (bs : List ℕ) (row : Row) → too_long st ≡ true → Last TooLong ≡ Last row → Closes st bs row
closes_long st bs row e q b h =
    let f = long_passed st e in
    inr (sym (last_same q), subst (λ (p : Plan). longest < p.l) (sym (plan_kept b st bs true f.0)) f.1)

closes_ended : (st : State) (held : List ℕ) (row : Row) → good_state st ≡ true → too_long st ≡ false → (told_of st held true).say ≡ Last row
    → Closes st (held ++ []) row
closes_ended st held row g s e b h =
    let w = walk_of 1 st held true in
    let q = say_last st held w.state w.stop row (sym (say_short st held true s) ∙ e) in
    let k : (walk_of b st held true).stop ≢ Pause = subst (λ (bs : List ℕ). (walk_of b st bs true).stop ≢ Pause) (append-nil held) h in
    let (d, m) = budget_some b st held g k in
    let v : walk_of b st held true ≡ w =
    ap (λ (i : ℕ). walk_of i st held true) (m ∙ (let o : suc d ≡ 1 + d = omega arith in o)) ∙ budget_stays 1 st held true q.1 d in
    inl (q.0 ∙ ap closing_row (sym v) ∙ ap (λ (bs : List ℕ). closing_row (walk_of b st bs true)) (sym (append-nil held)))

-- closed with more bytes, a refusal stays
closes_refused : (st : State) (held rest : List ℕ) (row : Row) → good_state st ≡ true → too_long st ≡ false → (told_of st held false).say ≡ Last row
    → Closes st (held ++ rest) row
closes_refused st held rest row g s e b h = go (walk_of 1 st held false).stop refl
  where
    go : (x : Stop) → (walk_of 1 st held false).stop ≡ x
        → (row ≡ closing_row (walk_of b st (held ++ rest) true)) ⊎ ((row ≡ TooLong) × (longest < (walk_of b st (held ++ rest) true).state.plan.l))
    go (Wait n) z = absurd ((say_last st held (walk_of 1 st held false).state (walk_of 1 st held false).stop row (sym (say_short st held false s) ∙ e)).2 n z)
    go Pause z = absurd ((say_last st held (walk_of 1 st held false).state (walk_of 1 st held false).stop row (sym (say_short st held false s) ∙ e)).1 z)
    go Complete' z = absurd (open_never_complete 1 st held z)
    go (Refused' r) z =
        let (d, m) = budget_some b st (held ++ rest) g h in
        let v : walk_of b st (held ++ rest) true ≡ walk_of 1 st held false =
        ap (λ (i : ℕ). walk_of i st (held ++ rest) true) (m ∙ (let o : suc d ≡ 1 + d = omega arith in o)) ∙ refusal_stays 1 st held r z rest true d in
        inl ((say_last st held (walk_of 1 st held false).state (walk_of 1 st held false).stop row (sym (say_short st held false s) ∙ e)).0
        ∙ ap closing_row (sym v))

-- a record that passes is all that is held; the walk goes on behind it
closes_next : (st : State) (held rest : List ℕ) (row : Row) → good_state st ≡ true → turn_of st held false ≡ Ok tt → Room st held
    → Closes (next_of st held) ([] ++ rest) row → Closes st (held ++ rest) row
closes_next st held rest row g t room c b h =
    let (d, m) = budget_some b st (held ++ rest) g h in
    let r = turn_room st held false t in
    let full : length held ≤ (next_due st).length =
    ⊎_elim (λ l. l) (λ l. absurd (let o = pass_going st.kind st.plan st.passed (next_due st) held false t in omega arith)) room in
    let u = turn_pass_stays st held rest true t in
    let v : walk_of b st (held ++ rest) true ≡ more 1 (walk_of d (next_of st held) ([] ++ rest) true) =
    ap (λ (i : ℕ). walk_of i st (held ++ rest) true) m
    ∙ walk_pass st (held ++ rest) true d g u
    ∙ ap (λ (x : State). more 1 (walk_of d x (drop (next_due st).length (held ++ rest)) true)) (next_stays st held rest t)
    ∙ ap (λ (bs : List ℕ). more 1 (walk_of d (next_of st held) bs true))
    (rest_stays st held rest t ∙ ap (λ (x : List ℕ). x ++ rest) (drop_of_length-le held full)) in
    let k : (walk_of d (next_of st held) ([] ++ rest) true).stop ≢ Pause = λ z. h (ap (λ (w : Walked). w.stop) v ∙ z) in
    ⊎_elim (λ e. inl (e ∙ sym (ap closing_row v))) (λ e. inr (e.0, subst (λ (w : Walked). longest < w.state.plan.l) (sym v) e.1)) (c d k)

-- some row is printed, so the last one stands behind any other
closing_next : {st : State} {held rest : List ℕ} {rows : List Row} (r : Row) → Lists st held rest rows → closing rows ≡ closing (r ∷ rows)
closing_next r (piece p m e l after) = closing_next r after
closing_next r (ended m e f) = refl
closing_next r (next q e after) = refl
closing_next r (last e) = refl

lists_is : {st : State} {held rest : List ℕ} {rows : List Row} → Lists st held rest rows → good_state st ≡ true → st.kind ≡ image' → Room st held
    → Closes st (held ++ rest) (closing rows)
lists_is {st} {held} (piece {rest = rest} {rows = rows} p m e l more') g k room =
    ⊎_elim (λ s. absurd (want≢last (sym e ∙ say_long st held false s)))
    (λ s.
    let w = walk_of 1 st held false in
    let (n, z, y) = say_want st held w.state w.stop m (sym (say_short st held false s) ∙ e) in
    closes_assoc st held p rest (closing rows) (lists_is more' g k (want_fits st held g k n z p (subst (λ (i : ℕ). length p ≤ i) y l))))
    (cases (too_long st))
lists_is {st} {held} (ended {row = row} m e f) g k room =
    ⊎_elim (λ s. absurd (want≢last (sym e ∙ say_long st held false s))) (λ s. closes_ended st held row g s f) (cases (too_long st))
lists_is {st} {held} {rest} (next {rows = rows} r e after) g k room =
    ⊎_elim (λ s. absurd (next≢last (sym e ∙ say_long st held false s)))
    (λ s.
    let w = walk_of 1 st held false in
    let z = say_next st held w.state w.stop r (sym (say_short st held false s) ∙ e) in
    let t = turn_passes st held g z in
    let o : (told_of st held false).state ≡ next_of st held =
    ap (λ (x : Told). x.state) (told_is st held false (walk_of 1 st held false) s refl) ∙ ap (λ (x : Walked). x.state) (one_turn st held false g t) in
    subst (λ (x : Row). Closes st (held ++ rest) x) (closing_next r after)
    (closes_next st held rest (closing rows) g t room
    (subst (λ (x : State). Closes x ([] ++ rest) (closing rows)) o
    (lists_is after (subst (λ (x : State). good_state x ≡ true) (sym o) (good_next st held false g t))
    (ap (λ (x : State). x.kind) o ∙ next_kind st held ∙ k) (inl (omega arith))))))
    (cases (too_long st))
lists_is {st} {held} {rest} (last {row = row} e) g k room =
    ⊎_elim (λ s. closes_long st (held ++ rest) row s (sym (say_long st held false s) ∙ e)) (λ s. closes_refused st held rest row g s e) (cases (too_long st))

-- begun fresh, with nothing held: the last row is the whole closed walk's answer, with any budget that does not pause; or RECORD TOO LONG, where L is
-- over 32,768
pub listing_is_walk : {input : List ℕ} {rows : List Row} → Lists (fresh image') [] input rows → (b : ℕ) → (walk_of b (fresh image') input true).stop ≢ Pause
    → (closing rows ≡ closing_row (walk_of b (fresh image') input true))
    ⊎ ((closing rows ≡ TooLong) × (longest < (walk_of b (fresh image') input true).state.plan.l))
listing_is_walk l = lists_is l (good_fresh image) refl (inl (omega arith))

-- ---- all its rows

-- one turn of the definition
module _ (st : State) (bs : List ℕ) (d : ℕ) where
  pub rows_long : too_long st ≡ true → rows_of (suc d) st bs ≡ TooLong ∷ []
  unfolding rows_of
  rows_long e = simp e

  module _ (short : too_long st ≡ false) where
    pub rows_halt : (x : Stop) → turn_of st bs true ≡ Err x → rows_of (suc d) st bs ≡ closing_by st x ∷ []
    unfolding rows_of
    rows_halt x t = simp (short, t)

    pub rows_pass : turn_of st bs true ≡ Ok tt
        → rows_of (suc d) st bs ≡ passed_row st (take (next_due st).length bs) (next_of st bs) ∷ rows_of d (next_of st bs) (drop (next_due st).length bs)
    unfolding rows_of
    rows_pass t = simp (short, t)

-- the rows are the definition's, with any budget that does not pause
abbrev RowsAre : State → List ℕ → List Row → Type 0
RowsAre st bs rows = (b : ℕ) → (walk_of b st bs true).stop ≢ Pause → rows ≡ rows_of b st bs

-- it is enough to look one record ahead
by_turn : (st : State) (bs : List ℕ) (rows : List Row) → good_state st ≡ true
    → ((d : ℕ) → (walk_of (suc d) st bs true).stop ≢ Pause → rows ≡ rows_of (suc d) st bs) → RowsAre st bs rows
by_turn st bs rows g f b h =
    let (d, m) = budget_some b st bs g h in
    f d (subst (λ (i : ℕ). (walk_of i st bs true).stop ≢ Pause) m h) ∙ ap (λ (i : ℕ). rows_of i st bs) (sym m)

next_same : {r q : Row} → Next r ≡ Next q → r ≡ q
next_same e = cc

module _ (st : State) (held : List ℕ) (g : good_state st ≡ true) (short : too_long st ≡ false) where
  -- a walk by one record that neither pauses nor waits is a turn that halts
  halted : (c : Bool) (x : Stop) → (walk_of 1 st held c).stop ≡ x → x ≢ Pause → (turn_of st held c ≡ Err x) × ((walk_of 1 st held c).state ≡ st)
  halted c x e n = go (turn_of st held c) refl
    where
      go : (t : Turn) → turn_of st held c ≡ t → (turn_of st held c ≡ Err x) × ((walk_of 1 st held c).state ≡ st)
      go (Ok u) q = absurd (n (sym e ∙ ap (λ (w : Walked). w.stop) (one_turn st held c g q)))
      go (Err y) q =
          let w = walk_halt st held c 0 y g q in
          (q ∙ ap Err (sym (ap (λ (z : Walked). z.stop) w) ∙ e), ap (λ (z : Walked). z.state) w)

  -- the input has ended
  rows_ended : (row : Row) → (told_of st held true).say ≡ Last row → RowsAre st (held ++ []) (row ∷ [])
  rows_ended row e =
      let w = walk_of 1 st held true in
      let q = say_last st held w.state w.stop row (sym (say_short st held true short) ∙ e) in
      let t = halted true w.stop refl q.1 in
      let r : row ≡ closing_by st w.stop = q.0 ∙ ap (λ (s : State). closing_by s w.stop) t.1 in
      subst (λ (bs : List ℕ). RowsAre st bs (row ∷ [])) (sym (append-nil held))
      (by_turn st held (row ∷ []) g (λ d h. ap (λ (x : Row). x ∷ []) r ∙ sym (rows_halt st held d short w.stop t.0)))

  -- a refusal while more may come
  rows_refused : (rest : List ℕ) (row : Row) → (told_of st held false).say ≡ Last row → RowsAre st (held ++ rest) (row ∷ [])
  rows_refused rest row e = go (walk_of 1 st held false).stop refl
    where
      q : (row ≡ closing_by (walk_of 1 st held false).state (walk_of 1 st held false).stop) × ((walk_of 1 st held false).stop ≢ Pause)
          × ((n : ℕ) → (walk_of 1 st held false).stop ≡ Wait n → ⊥)
      q = say_last st held (walk_of 1 st held false).state (walk_of 1 st held false).stop row (sym (say_short st held false short) ∙ e)

      go : (x : Stop) → (walk_of 1 st held false).stop ≡ x → RowsAre st (held ++ rest) (row ∷ [])
      go (Wait n) z = absurd (q.2 n z)
      go Pause z = absurd (q.1 z)
      go Complete' z = absurd (open_never_complete 1 st held z)
      go (Refused' r) z =
          let t = halted false (Refused' r) z (λ o. refused≢pause o) in
          let s = turn_refusal_stays st held rest true r t.0 in
          let o : row ≡ closing_by st (Refused' r) = q.0 ∙ ap (λ (x : Stop). closing_by (walk_of 1 st held false).state x) z in
          by_turn st (held ++ rest) (row ∷ []) g (λ d h. ap (λ (x : Row). x ∷ []) o ∙ sym (rows_halt st (held ++ rest) d short (Refused' r) s))

  -- a record that passes is all that is held
  rows_next : (rest : List ℕ) (r : Row) (rows : List Row) → (told_of st held false).say ≡ Next r → turn_of st held false ≡ Ok tt → Room st held
      → RowsAre (next_of st held) ([] ++ rest) rows → RowsAre st (held ++ rest) (r ∷ rows)
  rows_next rest r rows e t room after =
      by_turn st (held ++ rest) (r ∷ rows) g (λ d h.
      let long = turn_room st held false t in
      let full : length held ≤ (next_due st).length =
      ⊎_elim (λ l. l) (λ l. absurd (let o = pass_going st.kind st.plan st.passed (next_due st) held false t in omega arith)) room in
      let size : length held ≡ (next_due st).length = omega arith in
      let u = turn_pass_stays st held rest true t in
      let w = one_turn st held false g t in
      let x : r ≡ passed_row st held (next_of st held) =
      next_same (sym e ∙ say_short st held false short
      ∙ ap (λ (y : Walked). say_of st held y.state y.stop) w) in
      let y : drop (next_due st).length (held ++ rest) ≡ [] ++ rest =
      rest_stays st held rest t ∙ ap (λ (z : List ℕ). z ++ rest) (drop_of_length-le held full) in
      let v : walk_of (suc d) st (held ++ rest) true ≡ more 1 (walk_of d (next_of st held) ([] ++ rest) true) =
      walk_pass st (held ++ rest) true d g u
      ∙ ap (λ (z : State). more 1 (walk_of d z (drop (next_due st).length (held ++ rest)) true)) (next_stays st held rest t)
      ∙ ap (λ (z : List ℕ). more 1 (walk_of d (next_of st held) z true)) y in
      let k : (walk_of d (next_of st held) ([] ++ rest) true).stop ≢ Pause = λ z. h (ap (λ (o : Walked). o.stop) v ∙ z) in
      ap (λ (z : Row). z ∷ rows) x
      ∙ ap (λ (z : List Row). passed_row st held (next_of st held) ∷ z) (after d k)
      ∙ sym (rows_pass st (held ++ rest) d short u
      ∙ ap (λ (z : List ℕ). passed_row st z (next_of st (held ++ rest)) ∷ rows_of d (next_of st (held ++ rest)) (drop (next_due st).length (held ++ rest)))
      (take_at held rest (next_due st).length size)
      ∙ ap (λ (z : State). passed_row st held z ∷ rows_of d z (drop (next_due st).length (held ++ rest))) (next_stays st held rest t)
      ∙ ap (λ (z : List ℕ). passed_row st held (next_of st held) ∷ rows_of d (next_of st held) z) y))

lists_rows : {st : State} {held rest : List ℕ} {rows : List Row} → Lists st held rest rows → good_state st ≡ true → st.kind ≡ image' → Room st held
    → RowsAre st (held ++ rest) rows
lists_rows {st} {held} (piece {rest = rest} {rows = rows} p m e l more') g k room =
    ⊎_elim (λ s. absurd (want≢last (sym e ∙ say_long st held false s)))
    (λ s.
    let w = walk_of 1 st held false in
    let (n, z, y) = say_want st held w.state w.stop m (sym (say_short st held false s) ∙ e) in
    subst (λ (bs : List ℕ). RowsAre st bs rows) (append_assoc held p rest)
    (lists_rows more' g k (want_fits st held g k n z p (subst (λ (i : ℕ). length p ≤ i) y l))))
    (cases (too_long st))
lists_rows {st} {held} (ended {row = row} m e f) g k room =
    ⊎_elim (λ s. absurd (want≢last (sym e ∙ say_long st held false s))) (λ s. rows_ended st held g s row f) (cases (too_long st))
lists_rows {st} {held} {rest} (next {rows = rows} r e after) g k room =
    ⊎_elim (λ s. absurd (next≢last (sym e ∙ say_long st held false s)))
    (λ s.
    let w = walk_of 1 st held false in
    let z = say_next st held w.state w.stop r (sym (say_short st held false s) ∙ e) in
    let t = turn_passes st held g z in
    let o : (told_of st held false).state ≡ next_of st held =
    ap (λ (x : Told). x.state) (told_is st held false (walk_of 1 st held false) s refl) ∙ ap (λ (x : Walked). x.state) (one_turn st held false g t) in
    rows_next st held g s rest r rows e t room
    (subst (λ (x : State). RowsAre x ([] ++ rest) rows) o
    (lists_rows after (subst (λ (x : State). good_state x ≡ true) (sym o) (good_next st held false g t))
    (ap (λ (x : State). x.kind) o ∙ next_kind st held ∙ k) (inl (omega arith)))))
    (cases (too_long st))
lists_rows {st} {held} {rest} (last {row = row} e) g k room =
    ⊎_elim
    (λ s. by_turn st (held ++ rest) (row ∷ []) g
    (λ d h. ap (λ (x : Row). x ∷ []) (sym (last_same (sym (say_long st held false s) ∙ e))) ∙ sym (rows_long st (held ++ rest) d s)))
    (λ s. rows_refused st held g s rest row e) (cases (too_long st))

-- begun fresh, with nothing held: the whole output is the definition's, in whatever pieces the input came
pub listing_rows : {input : List ℕ} {rows : List Row} → Lists (fresh image') [] input rows → (b : ℕ) → (walk_of b (fresh image') input true).stop ≢ Pause
    → rows ≡ rows_of b (fresh image') input
listing_rows l = lists_rows l (good_fresh image) refl (inl (omega arith))

-- so no two cuttings print different rows
pub listing_once : {input : List ℕ} {rows rows' : List Row} → Lists (fresh image') [] input rows → Lists (fresh image') [] input rows' → rows ≡ rows'
listing_once {input} l l' =
    let b = suc (planned_total image input) in
    let h = enough_planned image b input true (omega arith) in
    listing_rows l b h ∙ sym (listing_rows l' b h)

-- a refusal in the first record is its row alone
pub refused_alone : {input : List ℕ} {rows : List Row} → Lists (fresh image') [] input rows → (r : Refusal) → turn_of (fresh image') input true ≡ Err
    (Refused' r)
    → rows ≡ Refused r ∷ []
unfolding too_long
refused_alone {input} l r t =
    let b = suc (planned_total image input) in
    listing_rows l b (enough_planned image b input true (omega arith)) ∙ rows_halt (fresh image') input (planned_total image input) refl (Refused' r) t

-- ---- RECORD TOO LONG comes exactly where the first record passes with L over 32,768 (a plan's L is 0 before it)

-- the closed walk's own row is another
not_long : (st : State) (x : Stop) → x ≢ Pause → ((n : ℕ) → x ≡ Wait n → ⊥) → closing_by st x ≡ TooLong → ⊥
not_long st (Wait n) p w e = w n refl
not_long st Pause p w e = p refl
not_long st Complete' p w e = cc
not_long st (Refused' r) p w e = cc

-- a state behind its first record, whose lines are too long
is_long : (st : State) → (st.passed ≡ 0 → ⊥) → longest < st.plan.l → too_long st ≡ true
unfolding too_long
is_long st n h = simp (ne_eqb st.passed 0 n, lt-ltb longest st.plan.l h)

next_some : (st : State) (b : List ℕ) → (next_of st b).passed ≡ 0 → ⊥
unfolding next_of
next_some st b e = omega arith

pub fresh_short : too_long (fresh image') ≡ false
unfolding too_long
fresh_short = refl

long_rows : (input : List ℕ) (d : ℕ) → (walk_of (suc d) (fresh image') input true).stop ≢ Pause → longest < (walk_of (suc d)
    (fresh image') input true).state.plan.l
    → closing (rows_of (suc d) (fresh image') input) ≡ TooLong
long_rows input d h l = go (turn_of (fresh image') input true) refl
  where
    go : (t : Turn) → turn_of (fresh image') input true ≡ t → closing (rows_of (suc d) (fresh image') input) ≡ TooLong
    go (Err x) t =
        absurd (let w = subst (λ (y : Walked). longest < y.state.plan.l) (walk_halt (fresh image') input true d x (good_fresh image) t) l in omega arith)
    go (Ok u) t =
        let after = next_of (fresh image') input in
        let rest = drop (next_due (fresh image')).length input in
        let v = walk_pass (fresh image') input true d (good_fresh image) t in
        let k : (walk_of d after rest true).stop ≢ Pause = λ z. h (ap (λ (o : Walked). o.stop) v ∙ z) in
        let (e, m) = budget_some d after rest (good_next (fresh image') input true (good_fresh image) t) k in
        let n = next_some (fresh image') input in
        let far : longest < (walk_of d after rest true).state.plan.l = subst (λ (y : Walked). longest < y.state.plan.l) v l in
        let long = is_long after n (subst (λ (p : Plan). longest < p.l) (plan_kept d after rest true n) far) in
        ap closing
        (rows_pass (fresh image') input d fresh_short t
        ∙ ap (λ (y : List Row). passed_row (fresh image') (take (next_due (fresh image')).length input) after ∷ y)
        (ap (λ (i : ℕ). rows_of i after rest) m ∙ rows_long after rest e long))

pub too_long_exactly : {input : List ℕ} {rows : List Row} → Lists (fresh image') [] input rows → (b : ℕ) → (walk_of b (fresh image') input true).stop ≢ Pause
    → (closing rows ≡ TooLong) ↔ (longest < (walk_of b (fresh image') input true).state.plan.l)
too_long_exactly {input} {rows} l b h = (to, back)
  where
    to : closing rows ≡ TooLong → longest < (walk_of b (fresh image') input true).state.plan.l
    to e =
        ⊎_elim
        (λ q. absurd (not_long (walk_of b (fresh image') input true).state (walk_of b (fresh image') input true).stop h
        (λ n z. closed_never_waits b (fresh image') input n z) (sym q ∙ e)))
        (λ q. q.1) (listing_is_walk l b h)

    back : longest < (walk_of b (fresh image') input true).state.plan.l → closing rows ≡ TooLong
    back far =
        let (d, m) = budget_some b (fresh image') input (good_fresh image) h in
        ap closing (listing_rows l b h ∙ ap (λ (i : ℕ). rows_of i (fresh image') input) m)
        ∙ long_rows input d (subst (λ (i : ℕ). (walk_of i (fresh image') input true).stop ≢ Pause) m h)
        (subst (λ (i : ℕ). longest < (walk_of i (fresh image') input true).state.plan.l) m far)
