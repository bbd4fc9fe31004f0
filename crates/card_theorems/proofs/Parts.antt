-- The lines and the leader entries: those that are as they must be are passed one by one, and what the judging says of bytes is what stands there.
use Prim.Native.Nat.{ℕ, zero, suc, ◌+◌, ◌≤◌, ◌<◌}
use mathlib.Core.Path.{◌≡◌, refl, ap, ◌∙◌, subst}
use mathlib.Core.List.{List, [], ◌∷◌, ◌++◌, append_assoc}
use mathlib.Core.Logic.{◌⊎◌, inl, inr, ⊎_elim}
use native.Mathlib.Omega.{arith}
use lib.ListN.{length, take, drop, length-append, length-drop, take-append-drop}
use lib.Seq.{drop_at}
use borrow.Author.Tests.{ne_eqb}
use Rattle.std.specs.Prelude.{Result, Ok, Err}
use Rattle.words.specs.Words.{four_at}
use Rattle.words.specs.Answer.{refusal_at}
use Rattle.entry.specs.Entry.{concat}
use Rattle.card_theorems.specs.Card.{Fill, Span, Lines, Leaders, Wrong, unknown, cut, order, Missing, IsLine, IsLeader, longs}
use Rattle.cards.specs.Check.{carded, fault_of, judged, line_holds, leader_holds, lines_of, leaders_of}
use Rattle.card_theorems.proofs.Entries.{four_front, entry_passes, passes_is, fault_wrong, wrong_fault, missing_fault, judges_line, judges_leader}

-- ---- lines

lines_step : (w k at m : ℕ) (r x : List ℕ) → fault_of 2 (line_holds (suc k) w (r ++ x)) (r ++ x) ≡ Ok tt → drop 13 (r ++ x) ≡ x
    → lines_of (suc m) k w at (r ++ x) ≡ lines_of m (suc k) w (at + 13) x
unfolding lines_of
lines_step w k at m r x p q =
    ap (λ (i : Result (Unit {0}) ℕ). judged i at (lines_of m (suc k) w (at + 13) (drop 13 (r ++ x)))) p ∙ ap (lines_of m (suc k) w (at + 13)) q

-- entries that are as they must be are passed
pub lines_pass : (w k at m j : ℕ) (rs : List (List ℕ)) (fs : List Fill) (left : List ℕ) → m ≡ length fs + j → Lines w (suc k) rs fs
    → lines_of m k w at (concat rs ++ left) ≡ lines_of j (k + length fs) w (at + length (concat rs)) left
lines_pass w k at m j [] [] left e ls =
    let a : m ≡ j = omega arith in
    let b : k ≡ k + 0 = omega arith in
    let c : at ≡ at + 0 = omega arith in
    ap (λ (x : ℕ). lines_of x k w at left) a ∙ ap (λ (x : ℕ). lines_of j x w at left) b ∙ ap (λ (x : ℕ). lines_of j (k + 0) w x left) c
lines_pass w k at m j [] (f ∷ fs) left e ls = absurd ls
lines_pass w k at m j (r ∷ rs) [] left e ls = absurd ls
lines_pass w k at zero j (r ∷ rs) (f ∷ fs) left e ls = absurd (omega arith)
lines_pass w k at (suc m) j (r ∷ rs) (f ∷ fs) left e ls =
    let x : List ℕ = concat rs ++ left in
    let s = ls.0.is.size in
    ap (lines_of (suc m) k w at) (append_assoc r (concat rs) left)
    ∙ lines_step w k at m r x (entry_passes (judges_line w (suc k)) r x (f, ls.0)) (drop_at r x 13 s)
    ∙ lines_pass w (suc k) (at + 13) m j rs fs left (omega arith) ls.1
    ∙ ap (λ (i : ℕ). lines_of j i w (at + 13 + length (concat rs)) left) (let q : suc k + length fs ≡ k + suc (length fs) = omega arith in q)
    ∙ ap (λ (i : ℕ). lines_of j (k + suc (length fs)) w i left)
    (let q : at + 13 + length (concat rs) ≡ at + length (r ++ concat rs) = omega (arith, length-append r (concat rs)) in q)

-- behind them, what is first wrong is refused
pub lines_refuse : (w k at j m : ℕ) (left : List ℕ) → Missing (IsLine w (suc k)) left m → lines_of (suc j) k w at left ≡ Err (refusal_at m at)
unfolding lines_of
lines_refuse w k at j m left h =
    ap (λ (i : Result (Unit {0}) ℕ). judged i at (lines_of j (suc k) w (at + 13) (drop 13 left))) (missing_fault (judges_line w (suc k)) left m h)

-- what the judging of m lines behind k says of bytes
pub record Said (m k w at : ℕ) (bs : List ℕ) : Type 0 where
  pub entries : List (List ℕ)
  pub fills : List Fill
  pub left : List ℕ
  pub are : concat entries ++ left ≡ bs
  pub lines : Lines w (suc k) entries fills
  pub ends : (length fills ≡ m) ⊎ ((length fills < m) × ((n : ℕ) × Missing (IsLine w (suc (k + length fills))) left n))

pub lines_said : (m k w at : ℕ) (bs : List ℕ) → Said m k w at bs
lines_said zero k w at bs = record { entries = []; fills = []; left = bs; are = refl; lines = tt; ends = inl refl }
lines_said (suc m) k w at bs = go (fault_of 2 (line_holds (suc k) w bs) bs) refl (lines_said m (suc k) w (at + 13) (drop 13 bs))
  where
    go : (f : Result (Unit {0}) ℕ) → fault_of 2 (line_holds (suc k) w bs) bs ≡ f → Said m (suc k) w (at + 13) (drop 13 bs) → Said (suc m) k w at bs
    go (Ok u) q on =
        let p = passes_is (judges_line w (suc k)) bs q in
        record {
          entries = take 13 bs ∷ on.entries;
          fills = p.1.0 ∷ on.fills;
          left = on.left;
          are = append_assoc (take 13 bs) (concat on.entries) on.left ∙ ap (λ (x : List ℕ). take 13 bs ++ x) on.are ∙ take-append-drop 13 bs;
          lines = (p.1.1, on.lines);
          ends = ⊎_elim (λ a. inl (ap suc a))
              (λ a. inr (
                omega (arith, a.0),
                (
                  a.1.0,
                  subst (λ (x : ℕ). Missing (IsLine w (suc x)) on.left a.1.0)
                      (let e : suc k + length on.fills ≡ k + suc (length on.fills) = omega arith in e) a.1.1,
                ),
              ))
              on.ends;
        }
    go (Err f) q on =
        record {
          entries = [];
          fills = [];
          left = bs;
          are = refl;
          lines = tt;
          ends = inr (
            omega arith,
            (
              f,
              subst (λ (x : ℕ). Missing (IsLine w (suc x)) bs f) (let e : k ≡ k + 0 = omega arith in e)
                  (fault_wrong (judges_line w (suc k)) bs f q),
            ),
          );
        }

-- ---- leader entries

leaders_step : (n sum k at m : ℕ) (r x : List ℕ) → length r ≡ 10 → fault_of 3 (leader_holds (suc k) sum (r ++ x)) (r ++ x) ≡ Ok tt
    → leaders_of (suc m) n k sum at (r ++ x) ≡ leaders_of m n (suc k) (sum + four_at r 6) (at + 10) x
unfolding leaders_of
leaders_step n sum k at m r x s p =
    rw (ne_eqb (length (r ++ x)) 0 (λ z. omega (arith, length-append r x)), p, drop_at r x 10 s, four_front r x 6 (omega arith))

-- entries that are as they must be are passed; the bound on the turns goes down with the bytes
pub leaders_pass : (n sum k at m : ℕ) (rs : List (List ℕ)) (ss : List Span) (left : List ℕ) → length (concat rs ++ left) ≤ m → Leaders sum (suc k) rs ss
    → (j : ℕ) × (length left ≤ j)
    × (leaders_of m n k sum at (concat rs ++ left) ≡ leaders_of j n (k + length ss) (sum + longs ss) (at + length (concat rs)) left)
leaders_pass n sum k at m [] [] left e ls =
    let b : k ≡ k + 0 = omega arith in
    let c : at ≡ at + 0 = omega arith in
    let d : sum ≡ sum + 0 = omega arith in (
      m,
      e,
      ap (λ (x : ℕ). leaders_of m n x sum at left) b ∙ ap (λ (x : ℕ). leaders_of m n (k + 0) x at left) d
          ∙ ap (λ (x : ℕ). leaders_of m n (k + 0) (sum + 0) x left) c,
    )
leaders_pass n sum k at m [] (s ∷ ss) left e ls = absurd ls
leaders_pass n sum k at m (r ∷ rs) [] left e ls = absurd ls
leaders_pass n sum k at zero (r ∷ rs) (s ∷ ss) left e ls =
    absurd (omega (arith, ls.0.is.size, length-append (r ++ concat rs) left, length-append r (concat rs)))
leaders_pass n sum k at (suc m) (r ∷ rs) (s ∷ ss) left e ls =
    let x : List ℕ = concat rs ++ left in
    let size = ls.0.is.size in
    let long : length ((r ++ concat rs) ++ left) ≡ 10 + length x = ap length (append_assoc r (concat rs) left) ∙ length-append r x ∙ (omega arith) in
    let on = leaders_pass n (sum + s.long) (suc k) (at + 10) m rs ss left (omega arith) ls.1 in
    let a : suc k + length ss ≡ k + suc (length ss) = omega arith in
    let b : sum + s.long + longs ss ≡ sum + (s.long + longs ss) = omega arith in
    let c : at + 10 + length (concat rs) ≡ at + length (r ++ concat rs) = omega (arith, length-append r (concat rs)) in (
      on.0,
      on.1,
      ap (leaders_of (suc m) n k sum at) (append_assoc r (concat rs) left)
          ∙ leaders_step n sum k at m r x size (entry_passes (judges_leader sum (suc k)) r x (s, ls.0))
          ∙ ap (λ (y : ℕ). leaders_of m n (suc k) (sum + y) (at + 10) x) ls.0.long
          ∙ on.2
          ∙ ap (λ (y : ℕ). leaders_of on.0 n y (sum + s.long + longs ss) (at + 10 + length (concat rs)) left) a
          ∙ ap (λ (y : ℕ). leaders_of on.0 n (k + suc (length ss)) y (at + 10 + length (concat rs)) left) b
          ∙ ap (λ (y : ℕ). leaders_of on.0 n (k + suc (length ss)) (sum + (s.long + longs ss)) y left) c,
    )

-- at the card's end that is all
pub leaders_end : (n sum k at m : ℕ) → leaders_of m n k sum at [] ≡ carded n k
unfolding leaders_of
leaders_end n sum k at zero = refl
leaders_end n sum k at (suc m) = refl

-- and before it, what is first wrong is refused
wrong_some : {Is : List ℕ → Type 0} (bs : List ℕ) (m : ℕ) → Wrong Is bs m → 1 ≤ length bs
wrong_some bs m (unknown n h q) = n
wrong_some bs m (cut b n k s q) = n
wrong_some bs m (order b k s n q) = omega arith

pub leaders_refuse : (n sum k at j m : ℕ) (left : List ℕ) → length left ≤ j → Wrong (IsLeader sum (suc k)) left m → leaders_of j n k sum at left
    ≡ Err (refusal_at m at)
unfolding leaders_of
leaders_refuse n sum k at zero m left e h = absurd (omega (arith, wrong_some left m h))
leaders_refuse n sum k at (suc j) m left e h =
    rw (ne_eqb (length left) 0 (λ z. omega (arith, wrong_some left m h)), wrong_fault (judges_leader sum (suc k)) left m h)

-- what the judging of leader entries behind k says of bytes
pub record Told (k sum : ℕ) (bs : List ℕ) : Type 0 where
  pub entries : List (List ℕ)
  pub spans : List Span
  pub left : List ℕ
  pub are : concat entries ++ left ≡ bs
  pub leaders : Leaders sum (suc k) entries spans
  pub ends : (length left ≡ 0) ⊎ ((n : ℕ) × Wrong (IsLeader (sum + longs spans) (suc (k + length spans))) left n)

pub leaders_told : (m k sum : ℕ) (bs : List ℕ) → length bs ≤ m → Told k sum bs
leaders_told zero k sum bs e = record { entries = []; spans = []; left = bs; are = refl; leaders = tt; ends = inl (omega arith) }
leaders_told (suc m) k sum bs e =
    go (fault_of 3 (leader_holds (suc k) sum bs) bs) refl (λ y. leaders_told m (suc k) (sum + y) (drop 10 bs) (omega (arith, length-drop 10 bs)))
  where
    none : (length bs ≡ 0) ⊎ ((n : ℕ) × Wrong (IsLeader sum (suc k)) bs n) → Told k sum bs
    none h =
        let a : k ≡ k + 0 = omega arith in
        let b : sum ≡ sum + 0 = omega arith in
        record {
          entries = [];
          spans = [];
          left = bs;
          are = refl;
          leaders = tt;
          ends = ⊎_elim inl
              (λ x. inr
              (x.0, subst (λ (i : ℕ). Wrong (IsLeader (sum + 0) (suc i)) bs x.0) a (subst (λ (i : ℕ). Wrong (IsLeader i (suc k)) bs x.0) b x.1)))
              h;
        }

    go : (f : Result (Unit {0}) ℕ) → fault_of 3 (leader_holds (suc k) sum bs) bs ≡ f → ((y : ℕ) → Told (suc k) (sum + y) (drop 10 bs)) → Told k sum bs
    go (Ok u) q more =
        let p = passes_is (judges_leader sum (suc k)) bs q in
        let s = p.1.0 in
        let on = more s.long in
        let a : suc k + length on.spans ≡ k + suc (length on.spans) = omega arith in
        let b : sum + s.long + longs on.spans ≡ sum + (s.long + longs on.spans) = omega arith in
        record {
          entries = take 10 bs ∷ on.entries;
          spans = s ∷ on.spans;
          left = on.left;
          are = append_assoc (take 10 bs) (concat on.entries) on.left ∙ ap (λ (x : List ℕ). take 10 bs ++ x) on.are ∙ take-append-drop 10 bs;
          leaders = (p.1.1, on.leaders);
          ends = ⊎_elim inl
              (λ x. inr (
                x.0,
                subst (λ (i : ℕ). Wrong (IsLeader (sum + (s.long + longs on.spans)) (suc i)) on.left x.0) a
                    (subst (λ (i : ℕ). Wrong (IsLeader i (suc (suc k + length on.spans))) on.left x.0) b x.1),
              ))
              on.ends;
        }
    go (Err f) q more =
        none (⊎_elim (λ a. inl a.0) (λ a. inr (f, a)) (fault_wrong (judges_leader sum (suc k)) bs f q))
