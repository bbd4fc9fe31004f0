-- For every input and however it is cut, the listing prints its rows and ends: by induction over the bytes that are left, of which each turn takes some.
use Prim.Native.Nat.{ℕ, zero, suc, ◌+◌, ◌≤◌, ◌<◌}
use mathlib.Core.Path.{◌≡◌, refl, sym, ap, ◌∙◌, subst}
use mathlib.Core.Bool.{Bool, true, false}
use mathlib.Core.Logic.{inl, ⊎_elim}
use mathlib.Core.List.{List, [], ◌∷◌, ◌++◌}
use native.Mathlib.Omega.{arith}
use lib.Dec.{eqb}
use lib.ListN.{length, take, drop, take-append-drop, length-append, length-drop, length-take}
use borrow.Author.Tests.{leb-false, ltb-false, eqb-false}
use Rattle.std.specs.Prelude.{Ok, Err}
use Rattle.words.specs.Tests.{pick}
use Rattle.words.proofs.Laws.{cases}
use Rattle.plan.specs.Plan.{image as image', total_of, due_of}
use Rattle.turns.specs.Turn.{on_fine, Turn}
use Rattle.turns.specs.declared.Stop.{Stop}
use Rattle.turns.specs.declared.Stop.TheVariants.{Wait, Pause, Complete as Complete', Refused as Refused'}
use Rattle.turns.proofs.TurnLaws.{pass_parts, pass_going, judge_body}
use Rattle.walk.specs.State.{fresh, good_state, next_due}
use Rattle.walk.specs.Walk.{turn_of, next_of, walk_of}
use Rattle.walk.specs.declared.State.{State}
use Rattle.walk.specs.declared.Walked.{Walked}
use Rattle.walk.proofs.KeptLaws.{next_kind}
use Rattle.walk.proofs.LoopLaws.{walk_halt}
use Rattle.walk.proofs.TurnLaws.{good_next}
use Rattle.listing.specs.Rows.{wanted, say_of, too_long, told_of}
use Rattle.listing.specs.declared.Say.{Say}
use Rattle.listing.specs.declared.Say.TheVariants.{Want, Next, Last}
use Rattle.listing.specs.declared.Told.{Told}
use Rattle.listing.proofs.TurnLaws.{told_is}
use Rattle.rows.specs.declared.Row.{Row}
use Rattle.verdicts.specs.Tests.{Verdict}
use Rattle.promises.specs.Rules.{image}
use Rattle.promises.specs.Listing.{Lists, piece, ended, next, last}
use Rattle.promises.proofs.Accepts.{good_fresh}
use Rattle.promises.proofs.Counted.{closed_never_waits}
use Rattle.promises.proofs.FirstPasses.{one_turn}
use Rattle.promises.proofs.ListingIs.{Room, due_least, say_long, say_short, say_want, say_next, turn_waits, turn_passes, want_fits, want≢last, next≢last}
use Rattle.promises.proofs.Turns.{turn_room, pass≢halt, never_pause}

-- how an input is cut: of what is held, what is still to come and how many bytes are wanted, at least one and at most so many come
pub record Cutting : Type 0 where
  pub cut : List ℕ → List ℕ → ℕ → ℕ
  pub some : (held rest : List ℕ) (m : ℕ) → 1 ≤ m → 1 ≤ cut held rest m
  pub few : (held rest : List ℕ) (m : ℕ) → 1 ≤ m → cut held rest m ≤ m

-- a record that passes a closed file passes an open one
open_passes : (st : State) (b : List ℕ) → turn_of st b true ≡ Ok tt → turn_of st b false ≡ Ok tt
open_passes st b t =
    let q = pass_parts st.kind st.plan st.passed (next_due st) b true t in
    judge_body st.kind st.plan st.passed (next_due st) b false (leb-false _ _ q.going) (ltb-false _ _ q.twelve) q.head
    (ltb-false _ _ q.whole)
    ∙ ap (λ (v : Verdict). on_fine v (next_due st).ordinal (next_due st).start (Ok tt)) q.body

wanted_some : (n : ℕ) → 1 ≤ wanted n
unfolding wanted
wanted_some n = go (eqb n 0) refl
  where
    go : (b : Bool) → eqb n 0 ≡ b → 1 ≤ pick b 1 n
    go true e = omega arith
    go false e = let h = eqb-false n 0 e in omega arith

-- where an open turn waits, the closed one has a last row
module _ (st : State) (held : List ℕ) (g : good_state st ≡ true) (short : too_long st ≡ false) (n : ℕ) (waits : (walk_of 1 st held false).stop ≡ Wait n) where
  closed_last : (row : Row) × ((told_of st held true).say ≡ Last row)
  closed_last = go (walk_of 1 st held true).stop refl
    where
      no_pause : (walk_of 1 st held true).stop ≡ Pause → ⊥
      no_pause e = by (turn_of st held true) refl
        where
          by : (t : Turn) → turn_of st held true ≡ t → ⊥
          by (Ok u) t = pass≢halt (sym (open_passes st held t) ∙ turn_waits st held g n waits)
          by (Err x) t = never_pause st held true x t (sym (ap (λ (w : Walked). w.stop) (walk_halt st held true 0 x g t)) ∙ e)

      go : (x : Stop) → (walk_of 1 st held true).stop ≡ x → (row : Row) × ((told_of st held true).say ≡ Last row)
      go (Wait m) e = absurd (closed_never_waits 1 st held m e)
      go Pause e = absurd (no_pause e)
      go Complete' e = (_, say_short st held true short ∙ ap (λ (x : Stop). say_of st held (walk_of 1 st held true).state x) e)
      go (Refused' r) e = (_, say_short st held true short ∙ ap (λ (x : Stop). say_of st held (walk_of 1 st held true).state x) e)

module _ (c : Cutting) where
  Some : State → List ℕ → List ℕ → Type 0
  Some st held rest = (rows : List Row) × Lists st held rest rows

  lists_left : (fuel : ℕ) (st : State) (held rest : List ℕ) → length held + length rest + length rest < fuel → good_state st ≡ true → st.kind ≡ image'
      → Room st held → Some st held rest
  unfolding Some
  lists_left zero st held rest f g k room = absurd (omega arith)
  lists_left (suc fuel) st held rest f g k room = go (told_of st held false).say refl rest refl (lists_left fuel)
    where
      go : (s : Say) → (told_of st held false).say ≡ s → (ys : List ℕ) → ys ≡ rest
          → ((st' : State) (held' rest' : List ℕ) → length held' + length rest' + length rest' < fuel → good_state st' ≡ true → st'.kind ≡ image'
          → Room st' held' → (rows : List Row) × Lists st' held' rest' rows)
          → (rows : List Row) × Lists st held rest rows
      go (Last row) e ys q more = (row ∷ [], last e)
      go (Next r) e ys q more =
          ⊎_elim (λ s. absurd (next≢last (sym e ∙ say_long st held false s)))
          (λ s.
          let w = walk_of 1 st held false in
          let z = say_next st held w.state w.stop r (sym (say_short st held false s) ∙ e) in
          let t = turn_passes st held g z in
          let o : (told_of st held false).state ≡ next_of st held =
          ap (λ (x : Told). x.state) (told_is st held false w s refl) ∙ ap (λ (x : Walked). x.state) (one_turn st held false g t) in
          let long = turn_room st held false t in
          let going = pass_going st.kind st.plan st.passed (next_due st) held false t in
          let least : 12 ≤ (next_due st).length = subst (λ (i : ℕ). 12 ≤ (due_of i st.plan st.passed).length) (sym k)
          (due_least st g k (subst (λ (i : ℕ). st.passed < total_of i st.plan) k going)) in
          let n = more (told_of st held false).state [] rest (omega arith) (subst (λ (x : State). good_state x ≡ true) (sym o) (good_next st held false g t))
          (ap (λ (x : State). x.kind) o ∙ next_kind st held ∙ k) (inl (omega arith)) in
          (r ∷ n.0, next r e n.1))
          (cases (too_long st))
      go (Want m) e [] q more =
          ⊎_elim (λ s. absurd (want≢last (sym e ∙ say_long st held false s)))
          (λ s.
          let w = walk_of 1 st held false in
          let (n, z, y) = say_want st held w.state w.stop m (sym (say_short st held false s) ∙ e) in
          let l = closed_last st held g s n z in
          subst (λ (x : List ℕ). (rows : List Row) × Lists st held x rows) q (l.0 ∷ [], ended m e l.1))
          (cases (too_long st))
      go (Want m) e (x ∷ xs) q more =
          ⊎_elim (λ s. absurd (want≢last (sym e ∙ say_long st held false s)))
          (λ s.
          let w = walk_of 1 st held false in
          let (n, z, y) = say_want st held w.state w.stop m (sym (say_short st held false s) ∙ e) in
          let one : 1 ≤ m = subst (λ (i : ℕ). 1 ≤ i) (sym y) (wanted_some n) in
          let i = c.cut held rest m in
          let p = take i rest in
          let a = c.some held rest m one in
          let b = c.few held rest m one in
          let size = length-take i rest in
          let few : length p ≤ m = omega arith in
          let long = ap length q in
          let r = more st (held ++ p) (drop i rest) (omega (arith, length-append held p, length-drop i rest, size)) g k
          (want_fits st held g k n z p (subst (λ (j : ℕ). length p ≤ j) y few)) in
          subst (λ (bs : List ℕ). (rows : List Row) × Lists st held bs rows) (take-append-drop i rest) (r.0, piece p m e few r.1))
          (cases (too_long st))

  pub listing_some : (input : List ℕ) → (rows : List Row) × Lists (fresh image') [] input rows
  unfolding Some
  listing_some input = lists_left (suc (length input + length input)) (fresh image') [] input (omega arith) (good_fresh image) refl (inl (omega arith))
