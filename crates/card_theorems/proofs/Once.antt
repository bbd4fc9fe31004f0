-- A card has one reading, and the reader gives exactly its numbers; bytes that are no card are refused with the first thing wrong, at its place.
use Prim.Native.Nat.{ℕ, suc, ◌+◌, ◌-◌, ◌*◌, ◌≤◌, ◌<◌}
use mathlib.Core.Path.{◌≡◌, refl, sym, ap, ap₂, ◌∙◌, subst}
use mathlib.Core.List.{List, [], ◌∷◌, ◌++◌, append_assoc, append-nil}
use mathlib.Core.Logic.{◌⊎◌, ◌↔◌, inl, inr, ⊎_elim}
use native.Mathlib.Omega.{arith}
use lib.ListN.{length, take, drop, length-append, take-append-drop}
use lib.Seq.{drop_at, get_or-append-add}
use Rattle.std.specs.Prelude.{Result, Ok, Err}
use Rattle.words.specs.Words.{byte_at, four_at}
use Rattle.words.specs.Answer.{Answer, refusal_at, bare_refusal, refused_as}
use Rattle.words.specs.declared.Refusal.{Refusal}
use Rattle.refusals.proofs.Said.{refusal_said}
use Rattle.words.proofs.Laws.{four_bytes}
use Rattle.entry.specs.Entry.{concat}
use Rattle.card_theorems.specs.Card.{Fill, Span, Numbers, First, Lines, Leaders, Card, Missing, Wrong, IsLine, IsLeader}
use Rattle.card_theorems.specs.Card.{longs, fill_list, span_list, listed, CardRefuses, first, line, leader}
use Rattle.cards.specs.Check.{Checked, carded, fault_of, judged, first_holds, lines_of, leaders_of, behind_lines, check_behind, check_of, pairs_from, flat_of}
use Rattle.cards.specs.Check.{many_of, numbers_of, list_of}
use Rattle.cards.specs.Said.{checked_as}
use Rattle.cards.specs.declared.Card.{Card as Read}
use Rattle.cards.proofs.LoopLaws.{pairs_long}
use Rattle.cards.proofs.NumbersLaws.{refused_answer, refused_list, short_answer, short_list, card_answer, card_list}
use Rattle.writing.specs.Writing.{written}
use Rattle.card_theorems.proofs.Entries.{four_front, entry_passes, passes_is, fault_wrong, missing_fault, judges_first}
use Rattle.card_theorems.proofs.Parts.{lines_pass, lines_refuse, Said, lines_said, leaders_pass, leaders_end, leaders_refuse, Told, leaders_told}

-- ---- kind 1, and what stands behind it

lines_long : (w k : ℕ) (rs : List (List ℕ)) (fs : List Fill) → Lines w k rs fs → length (concat rs) ≡ 13 * length fs
lines_long w k [] [] ls = refl
lines_long w k [] (f ∷ fs) ls = absurd ls
lines_long w k (r ∷ rs) [] ls = absurd ls
lines_long w k (r ∷ rs) (f ∷ fs) ls = omega (arith, length-append r (concat rs), ls.0.is.size, lines_long w (suc k) rs fs ls.1)

lines_none : (k w at : ℕ) (left : List ℕ) → lines_of 0 k w at left ≡ Ok tt
unfolding lines_of
lines_none k w at left = refl

-- bytes that begin with a kind 1 as it must be are judged by what is behind it
module _ (r rest : List ℕ) (n l w d : ℕ) (f : First r n l w d) where
  first_fine : fault_of 1 (first_holds (r ++ rest)) (r ++ rest) ≡ Ok tt
  first_fine = entry_passes judges_first r rest (n, l, w, d, f)

  says_lines : four_at (r ++ rest) 1 ≡ n
  says_lines = four_front r rest 1 (omega (arith, f.is.size)) ∙ f.says_n

  says_pixels : four_at (r ++ rest) 9 ≡ w
  says_pixels = four_front r rest 9 (omega (arith, f.is.size)) ∙ f.says_w

  check_first : check_of (r ++ rest)
      ≡ behind_lines (lines_of n 0 w 17 rest) (leaders_of (length (r ++ rest)) n 0 0 (17 + 13 * n) (drop (17 + 13 * n) (r ++ rest)))
  unfolding check_of
  check_first =
      ap (λ (i : Result (Unit {0}) ℕ). judged i 0 (check_behind (r ++ rest))) first_fine
      ∙ ap (λ (x : List ℕ). behind_lines (lines_of (four_at (r ++ rest) 1) 0 (four_at (r ++ rest) 9) 17 x)
      (leaders_of (length (r ++ rest)) (four_at (r ++ rest) 1) 0 0 (17 + 13 * four_at (r ++ rest) 1) (drop (17 + 13 * four_at (r ++ rest) 1) (r ++ rest))))
      (drop_at r rest 17 f.is.size)
      ∙ ap₂ (λ (a b : ℕ). behind_lines (lines_of a 0 b 17 rest) (leaders_of (length (r ++ rest)) a 0 0 (17 + 13 * a) (drop (17 + 13 * a)
      (r ++ rest)))) says_lines
      says_pixels

-- the lines as well
module _ (r : List ℕ) (n l w d : ℕ) (rs : List (List ℕ)) (fs : List Fill) (left : List ℕ) (f : First r n l w d) (ls : Lines w 1 rs fs) where
  check_short : (m : ℕ) → length fs < n → Missing (IsLine w (suc (length fs))) left m
      → check_of (r ++ (concat rs ++ left)) ≡ Err (refusal_at m (length r + length (concat rs)))
  check_short m h g =
      let j : ℕ = n - suc (length fs) in
      let e : n ≡ length fs + suc j = omega arith in
      let s = f.is.size in
      check_first r (concat rs ++ left) n l w d f
      ∙ ap (λ (x : Result (Unit {0}) Refusal). behind_lines x (leaders_of (length (r ++ (concat rs ++ left))) n 0 0 (17 + 13 * n) (drop (17 + 13 * n) (r ++
      (concat rs ++ left)))))
      (lines_pass w 0 17 n (suc j) rs fs left e ls
      ∙ ap (λ (i : ℕ). lines_of (suc j) i w (17 + length (concat rs)) left) (let q : 0 + length fs ≡ length fs = omega arith in q)
      ∙ lines_refuse w (length fs) (17 + length (concat rs)) j m left g)
      ∙ ap (λ (i : ℕ). Err (refusal_at m i)) (let q : 17 + length (concat rs) ≡ length r + length (concat rs) = omega arith in q)

  check_lines : length fs ≡ n → check_of (r ++ (concat rs ++ left)) ≡ leaders_of (length (r ++ (concat rs ++ left))) n 0 0 (17 + 13 * n) left
  check_lines h =
      let s = f.is.size in
      let long = lines_long w 1 rs fs ls in
      let e : n ≡ length fs + 0 = omega arith in
      let at : length (r ++ concat rs) ≡ 17 + 13 * n = length-append r (concat rs) ∙ (omega arith) in
      check_first r (concat rs ++ left) n l w d f
      ∙ ap (λ (x : Result (Unit {0}) Refusal). behind_lines x (leaders_of (length (r ++ (concat rs ++ left))) n 0 0 (17 + 13 * n) (drop (17 + 13 * n) (r ++
      (concat rs ++ left)))))
      (lines_pass w 0 17 n 0 rs fs left e ls ∙ lines_none (0 + length fs) w (17 + length (concat rs)) left)
      ∙ ap (leaders_of (length (r ++ (concat rs ++ left))) n 0 0 (17 + 13 * n))
      (ap (drop (17 + 13 * n)) (sym (append_assoc r (concat rs) left)) ∙ drop_at (r ++ concat rs) left (17 + 13 * n) at)

-- ---- a card is read

same_counts : (n k m j : ℕ) → carded n k ≡ carded m j → (n ≡ m) × (k ≡ j)
same_counts n k m j e =
    let r : ◌≡◌ {A = Read} (record { lines = n; entries = k }) (record { lines = m; entries = j }) = cc in
    (ap (λ (x : Read). x.lines) r, ap (λ (x : Read). x.entries) r)

-- the reader finds a card's lines and leader entries
pub card_checked : (bs : List ℕ) (x : Numbers) → Card bs x → check_of bs ≡ carded x.n (length x.leaders)
card_checked bs x c =
    let rest : List ℕ = concat c.leaders ++ [] in
    let e : c.first ++ (concat c.lines ++ rest) ≡ bs = ap (λ (y : List ℕ). c.first ++ (concat c.lines ++ y)) (append-nil (concat c.leaders))
    ∙ c.are in
    let whole = c.first ++ (concat c.lines ++ rest) in
    let long : length rest ≤ length whole =
    omega (arith, length-append c.first (concat c.lines ++ rest), length-append (concat c.lines) rest) in
    let p = leaders_pass x.n 0 0 (17 + 13 * x.n) (length whole) c.leaders x.leaders [] long c.follow in
    ap check_of (sym e)
    ∙ check_lines c.first x.n x.l x.w x.d c.lines x.lines rest c.begins c.each c.every
    ∙ p.2
    ∙ leaders_end x.n _ (0 + length x.leaders) _ p.0
    ∙ ap (carded x.n) (let q : 0 + length x.leaders ≡ length x.leaders = omega arith in q)

-- bytes that are no card are refused so
pub refuses_checked : (bs : List ℕ) (x : Refusal) → CardRefuses bs x → check_of bs ≡ Err x
unfolding check_of
refuses_checked bs x (first m h e) =
    ap (λ (i : Result (Unit {0}) ℕ). judged i 0 (check_behind bs)) (missing_fault judges_first bs m h) ∙ ap Err (sym e)
refuses_checked bs x (line r n l w d rs fs left m f ls h e g q) =
    ap check_of (sym e) ∙ check_short r n l w d rs fs left f ls m h g ∙ ap Err (sym q)
refuses_checked bs x (leader r n l w d rs fs es ss left m f ls h fo e g q) =
    let rest : List ℕ = concat es ++ left in
    let whole : List ℕ = r ++ (concat rs ++ rest) in
    let long : length rest ≤ length whole = omega (arith, length-append r (concat rs ++ rest), length-append (concat rs) rest) in
    let p = leaders_pass n 0 0 (17 + 13 * n) (length whole) es ss left long fo in
    let at : 17 + 13 * n + length (concat es) ≡ length r + length (concat rs) + length (concat es) =
    omega (arith, f.is.size, lines_long w 1 rs fs ls) in
    ap check_of (sym e)
    ∙ check_lines r n l w d rs fs rest f ls h
    ∙ p.2
    ∙ leaders_refuse n (0 + longs ss) (0 + length ss) (17 + 13 * n + length (concat es)) p.0 m left p.1 (same g)
    ∙ ap (λ (i : ℕ). Err (refusal_at m i)) at
    ∙ ap Err (sym q)
  where
    same : Wrong (IsLeader (longs ss) (suc (length ss))) left m → Wrong (IsLeader (0 + longs ss) (suc (0 + length ss))) left m
    same g =
        subst (λ (i : ℕ). Wrong (IsLeader (0 + longs ss) (suc i)) left m) (let a : length ss ≡ 0 + length ss = omega arith in a)
        (subst (λ (i : ℕ). Wrong (IsLeader i (suc (length ss))) left m) (let a : longs ss ≡ 0 + longs ss = omega arith in a) g)

-- ---- every list of bytes is a card or is refused

none_left : (l : List ℕ) → length l ≡ 0 → l ≡ []
none_left [] e = refl
none_left (x ∷ l) e = absurd (omega arith)

module _ (bs : List ℕ) where
  -- a card, or a refusal
  abbrev pub Either : Type 0
  Either = ((x : Numbers) × Card bs x) ⊎ ((x : Refusal) × CardRefuses bs x)

  module _ (r : List ℕ) (n l w d : ℕ) (f : First r n l w d) where
    behind_lines_lem : (rs : List (List ℕ)) (fs : List Fill) (rest : List ℕ) → Lines w 1 rs fs → length fs ≡ n → r ++ (concat rs ++ rest) ≡ bs → Told 0 0 rest
        → Either
    behind_lines_lem rs fs rest ls h e t =
        let are : r ++ (concat rs ++ (concat t.entries ++ t.left)) ≡ bs = ap (λ (y : List ℕ). r ++ (concat rs ++ y)) t.are ∙ e in
        ⊎_elim
        (λ z. inl (
          record { n = n; l = l; w = w; d = d; lines = fs; leaders = t.spans },
          record {
            first = r;
            lines = rs;
            leaders = t.entries;
            are = ap (λ (y : List ℕ). r ++ (concat rs ++ y))
                (sym (append-nil (concat t.entries)) ∙ ap (λ (y : List ℕ). concat t.entries ++ y) (sym (none_left t.left z))) ∙ are;
            begins = f;
            each = ls;
            every = h;
            follow = t.leaders;
          },
        ))
        (λ z.
        let a : 0 + longs t.spans ≡ longs t.spans = omega arith in
        let b : 0 + length t.spans ≡ length t.spans = omega arith in
        let g = subst (λ (i : ℕ). Wrong (IsLeader (longs t.spans) (suc i)) t.left z.0) b
        (subst (λ (i : ℕ). Wrong (IsLeader i (suc (0 + length t.spans))) t.left z.0) a z.1) in
        inr (_, leader r n l w d rs fs t.entries t.spans t.left z.0 f ls h t.leaders are g refl))
        t.ends

    behind_first_lem : (rest : List ℕ) → r ++ rest ≡ bs → Said n 0 w 17 rest → Either
    behind_first_lem rest e s =
        let are : r ++ (concat s.entries ++ s.left) ≡ bs = ap (λ (y : List ℕ). r ++ y) s.are ∙ e in
        ⊎_elim (λ z. behind_lines_lem s.entries s.fills s.left s.lines z are (leaders_told (length s.left) 0 0 s.left (omega arith)))
        (λ z.
        let b : 0 + length s.fills ≡ length s.fills = omega arith in
        let g = subst (λ (i : ℕ). Missing (IsLine w (suc i)) s.left z.1.0) b z.1.1 in
        inr (_, line r n l w d s.entries s.fills s.left z.1.0 f s.lines z.0 are g refl))
        s.ends

  pub card_or_refused : Either
  card_or_refused = go (fault_of 1 (first_holds bs) bs) refl
    where
      go : (f : Result (Unit {0}) ℕ) → fault_of 1 (first_holds bs) bs ≡ f → Either
      go (Ok u) e =
          let p = passes_is judges_first bs e in
          behind_first_lem (take 17 bs) p.1.0 p.1.1 p.1.2 p.1.3 p.1.4 (drop 17 bs) (take-append-drop 17 bs)
          (lines_said p.1.0 0 p.1.2 17 (drop 17 bs))
      go (Err m) e = inr (refusal_at m 0, first m (fault_wrong judges_first bs m e) refl)

  refused_same : (x y : Refusal) → ◌≡◌ {A = Checked} (Err x) (Err y) → x ≡ y
  refused_same x y e = cc

  not_both : (n k : ℕ) (x : Refusal) → ◌≡◌ {A = Checked} (carded n k) (Err x) → ⊥
  not_both n k x e = absurd cc

  -- bytes are refused with x exactly where x is the first thing wrong, at its entry's start
  pub refuses_exactly : (x : Refusal) → (check_of bs ≡ Err x) ↔ CardRefuses bs x
  refuses_exactly x = (to, refuses_checked bs x)
    where
      to : check_of bs ≡ Err x → CardRefuses bs x
      to e =
          ⊎_elim (λ c. absurd (not_both c.0.n (length c.0.leaders) x (sym (card_checked bs c.0 c.1) ∙ e)))
          (λ r. subst (CardRefuses bs) (refused_same r.0 x (sym (refuses_checked bs r.0 r.1) ∙ e)) r.1) card_or_refused

  -- they are read as a card of so many lines and leader entries exactly where they are one
  pub reads_exactly : (n k : ℕ) → (check_of bs ≡ carded n k) ↔ ((x : Numbers) × Card bs x × (x.n ≡ n) × (length x.leaders ≡ k))
  reads_exactly n k = (to, λ c. card_checked bs c.0 c.1 ∙ ap₂ carded c.2 c.3)
    where
      to : check_of bs ≡ carded n k → (x : Numbers) × Card bs x × (x.n ≡ n) × (length x.leaders ≡ k)
      to e =
          ⊎_elim
          (λ c.
          let q : carded c.0.n (length c.0.leaders) ≡ carded n k = sym (card_checked bs c.0 c.1) ∙ e in
          let s = same_counts _ _ _ _ q in
          (c.0, c.1, s.0, s.1))
          (λ r. absurd (not_both n k r.0 (sym e ∙ refuses_checked bs r.0 r.1))) card_or_refused

-- ---- the numbers

four_behind : (pre y : List ℕ) (i : ℕ) → four_at (pre ++ y) (length pre + i) ≡ four_at y i
four_behind pre y i =
    let at : (m : ℕ) → length pre + i + m ≡ length pre + (i + m) = λ m. omega arith in
    let b : (m : ℕ) → byte_at (pre ++ y) (length pre + i + m) ≡ byte_at y (i + m) = λ m. ap (byte_at (pre ++ y)) (at m) ∙ get_or-append-add pre y (i + m) 0 in
    let b0 : byte_at (pre ++ y) (length pre + i) ≡ byte_at y i = get_or-append-add pre y i 0 in
    sym (four_bytes (pre ++ y) (length pre + i)) ∙ rw (b0, b 1, b 2, b 3) (four_bytes y i)

-- a number of the entry r behind what comes before it
number_at : (pre r left : List ℕ) (i : ℕ) → i + 4 ≤ length r → four_at (pre ++ (r ++ left)) (length pre + i) ≡ four_at r i
number_at pre r left i h = four_behind pre (r ++ left) i ∙ four_front r left i h

fills_are : (w k : ℕ) (rs : List (List ℕ)) (fs : List Fill) (pre left : List ℕ) → Lines w k rs fs
    → pairs_from (length fs) (length pre + 5) 13 (pre ++ (concat rs ++ left)) ≡ fill_list fs
unfolding pairs_from
fills_are w k [] [] pre left ls = refl
fills_are w k [] (f ∷ fs) pre left ls = absurd ls
fills_are w k (r ∷ rs) [] pre left ls = absurd ls
fills_are w k (r ∷ rs) (f ∷ fs) pre left ls =
    let s = ls.0.is.size in
    let bs : List ℕ = pre ++ ((r ++ concat rs) ++ left) in
    let e : bs ≡ pre ++ (r ++ (concat rs ++ left)) = ap (λ (y : List ℕ). pre ++ y) (append_assoc r (concat rs) left) in
    let e' : bs ≡ (pre ++ r) ++ (concat rs ++ left) = e ∙ sym (append_assoc pre r (concat rs ++ left)) in
    let a : four_at bs (length pre + 5) ≡ f.left =
    ap (λ (y : List ℕ). four_at y (length pre + 5)) e ∙ number_at pre r (concat rs ++ left) 5 (omega arith) ∙ ls.0.left in
    let b : four_at bs (length pre + 5 + 4) ≡ f.count =
    ap₂ four_at e (let q : length pre + 5 + 4 ≡ length pre + 9 = omega arith in q) ∙ number_at pre r (concat rs ++ left) 9 (omega arith) ∙ ls.0.count in
    let c : pairs_from (length fs) (length pre + 5 + 13) 13 bs ≡ fill_list fs =
    ap₂ (λ (i : ℕ) (y : List ℕ). pairs_from (length fs) i 13 y)
    (let q : length pre + 5 + 13 ≡ length (pre ++ r) + 5 = omega (arith, length-append pre r) in q) e'
    ∙ fills_are w (suc k) rs fs (pre ++ r) left ls.1 in
    ap₂ (λ (x y : ℕ). x ∷ y ∷ pairs_from (length fs) (length pre + 5 + 13) 13 bs) a b ∙ ap (λ (y : List ℕ). f.left ∷ f.count ∷ y) c

spans_are : (sum k : ℕ) (rs : List (List ℕ)) (ss : List Span) (pre left : List ℕ) → Leaders sum k rs ss
    → pairs_from (length ss) (length pre + 2) 10 (pre ++ (concat rs ++ left)) ≡ span_list ss
unfolding pairs_from
spans_are sum k [] [] pre left ls = refl
spans_are sum k [] (f ∷ fs) pre left ls = absurd ls
spans_are sum k (r ∷ rs) [] pre left ls = absurd ls
spans_are sum k (r ∷ rs) (f ∷ fs) pre left ls =
    let s = ls.0.is.size in
    let bs : List ℕ = pre ++ ((r ++ concat rs) ++ left) in
    let e : bs ≡ pre ++ (r ++ (concat rs ++ left)) = ap (λ (y : List ℕ). pre ++ y) (append_assoc r (concat rs) left) in
    let e' : bs ≡ (pre ++ r) ++ (concat rs ++ left) = e ∙ sym (append_assoc pre r (concat rs ++ left)) in
    let a : four_at bs (length pre + 2) ≡ f.start =
    ap (λ (y : List ℕ). four_at y (length pre + 2)) e ∙ number_at pre r (concat rs ++ left) 2 (omega arith) ∙ ls.0.start in
    let b : four_at bs (length pre + 2 + 4) ≡ f.long =
    ap₂ four_at e (let q : length pre + 2 + 4 ≡ length pre + 6 = omega arith in q) ∙ number_at pre r (concat rs ++ left) 6 (omega arith) ∙ ls.0.long in
    let c : pairs_from (length fs) (length pre + 2 + 10) 10 bs ≡ span_list fs =
    ap₂ (λ (i : ℕ) (y : List ℕ). pairs_from (length fs) i 10 y)
    (let q : length pre + 2 + 10 ≡ length (pre ++ r) + 2 = omega (arith, length-append pre r) in q) e'
    ∙ spans_are (sum + f.long) (suc k) rs fs (pre ++ r) left ls.1 in
    ap₂ (λ (x y : ℕ). x ∷ y ∷ pairs_from (length fs) (length pre + 2 + 10) 10 bs) a b ∙ ap (λ (y : List ℕ). f.start ∷ f.long ∷ y) c

-- the list that the reader writes has exactly the card's numbers
pub numbers_are : (bs : List ℕ) (x : Numbers) → Card bs x → flat_of x.n (length x.leaders) bs ≡ listed x
unfolding flat_of pairs_from
numbers_are bs x c =
    let r = c.first in
    let f = c.begins in
    let s = f.is.size in
    let rest : List ℕ = concat c.lines ++ concat c.leaders in
    let at : (i : ℕ) → i + 4 ≤ 17 → four_at bs i ≡ four_at r i = λ i h. ap (λ (y : List ℕ). four_at y i) (sym c.are) ∙ four_front r rest i (omega arith) in
    let a : pairs_from x.n 22 13 bs ≡ fill_list x.lines =
    ap₂ (λ (m : ℕ) (y : List ℕ). pairs_from m 22 13 y) (sym c.every) (sym c.are)
    ∙ ap (λ (i : ℕ). pairs_from (length x.lines) i 13 (r ++ rest)) (let q : 22 ≡ length r + 5 = omega arith in q)
    ∙ fills_are x.w 1 c.lines x.lines r (concat c.leaders) c.each in
    let pre : List ℕ = r ++ concat c.lines in
    let e : bs ≡ pre ++ (concat c.leaders ++ []) =
    sym c.are ∙ sym (append_assoc r (concat c.lines) (concat c.leaders)) ∙ ap (λ (y : List ℕ). pre ++ y) (sym (append-nil (concat c.leaders))) in
    let b : pairs_from (length x.leaders) (19 + 13 * x.n) 10 bs ≡ span_list x.leaders =
    ap₂ (λ (i : ℕ) (y : List ℕ). pairs_from (length x.leaders) i 10 y)
    (let q : 19 + 13 * x.n ≡ length pre + 2 = omega (
      arith,
      length-append r (concat c.lines),
      lines_long x.w 1 c.lines x.lines
          c.each,
      c.every,
    ) in q) e
    ∙ spans_are 0 1 c.leaders x.leaders pre [] c.follow in
    rw (at 1 (omega arith), at 5 (omega arith), at 9 (omega arith), at 13 (omega arith), f.says_n, f.says_l, f.says_w, f.says_d, a, b)

-- ---- one reading

fills_same : (a b : List Fill) (p q : List ℕ) → length a ≡ length b → fill_list a ++ p ≡ fill_list b ++ q → (a ≡ b) × (p ≡ q)
fills_same [] [] p q l e = (refl, e)
fills_same [] (g ∷ b) p q l e = absurd (omega arith)
fills_same (f ∷ a) [] p q l e = absurd (omega arith)
fills_same (f ∷ a) (g ∷ b) p q l e =
    let x : f.left ≡ g.left = cc in
    let y : f.count ≡ g.count = cc in
    let t : fill_list a ++ p ≡ fill_list b ++ q = cc in
    let on = fills_same a b p q (omega arith) t in
    let h : f ≡ g = ap₂ (λ (m n : ℕ). record { left = m; count = n }) x y in
    (ap₂ (λ (z : Fill) (zs : List Fill). z ∷ zs) h on.0, on.1)

spans_same : (a b : List Span) → span_list a ≡ span_list b → a ≡ b
spans_same [] [] e = refl
spans_same [] (g ∷ b) e = let z : ◌≡◌ {A = ℕ} 0 1 = cc in absurd (omega arith)
spans_same (f ∷ a) [] e = let z : ◌≡◌ {A = ℕ} 0 1 = cc in absurd (omega arith)
spans_same (f ∷ a) (g ∷ b) e =
    let x : f.start ≡ g.start = cc in
    let y : f.long ≡ g.long = cc in
    let t : span_list a ≡ span_list b = cc in
    let h : f ≡ g = ap₂ (λ (m n : ℕ). record { start = m; long = n }) x y in
    ap₂ (λ (z : Span) (zs : List Span). z ∷ zs) h (spans_same a b t)

-- no two readings of one card
pub card_once : (bs : List ℕ) (x y : Numbers) → Card bs x → Card bs y → x ≡ y
card_once bs x y c d =
    let k : carded x.n (length x.leaders) ≡ carded y.n (length y.leaders) = sym (card_checked bs x c) ∙ card_checked bs y d in
    let same = same_counts _ _ _ _ k in
    let n = same.0 in
    let m = same.1 in
    let e : listed x ≡ listed y = sym (numbers_are bs x c) ∙ ap₂ (λ (i j : ℕ). flat_of i j bs) n m ∙ numbers_are bs y d in
    let l : x.l ≡ y.l = cc in
    let w : x.w ≡ y.w = cc in
    let dd : x.d ≡ y.d = cc in
    let t : fill_list x.lines ++ span_list x.leaders ≡ fill_list y.lines ++ span_list y.leaders = cc in
    let s = fills_same x.lines y.lines _ _ (c.every ∙ n ∙ sym d.every) t in
    let u = spans_same x.leaders y.leaders s.1 in
    ap₂ (λ (i j : ℕ). record { n = i; l = j; w = x.w; d = x.d; lines = x.lines; leaders = x.leaders }) n l
    ∙ ap₂ (λ (i j : ℕ). record { n = y.n; l = y.l; w = i; d = j; lines = x.lines; leaders = x.leaders }) w dd
    ∙ ap₂ (λ (i : List Fill) (j : List Span). record { n = y.n; l = y.l; w = y.w; d = y.d; lines = i; leaders = j }) s.0 u

-- ---- in the words of the answer

checked_refused : (y : Checked) (x : Refusal) → checked_as y ≡ refused_as x → y ≡ Err x
checked_refused (Ok c) x e =
    let w = ap (λ (a : Answer). a.word) e in
    let z : ◌≡◌ {A = ℕ} 0 1 = cc in absurd (omega arith)
checked_refused (Err y) x e = ap Err (refusal_said y x e)

-- who gets which refusal of the card reader, in both directions
pub card_refuses : (bs : List ℕ) (x : Refusal) → (checked_as (check_of bs) ≡ refused_as x) ↔ CardRefuses bs x
card_refuses bs x =
    (λ e. (refuses_exactly bs x).0 (checked_refused (check_of bs) x e), λ r. ap checked_as ((refuses_exactly bs x).1 r))

-- ---- the list of numbers

listed_long : (bs : List ℕ) (x : Numbers) → Card bs x → length (listed x) ≡ many_of x.n (length x.leaders)
unfolding flat_of
listed_long bs x c =
    let n : ℕ = x.n in
    let k : ℕ = length x.leaders in
    let a : List ℕ = pairs_from 2 1 8 bs in
    let b : List ℕ = pairs_from n 22 13 bs in
    let d : List ℕ = pairs_from k (19 + 13 * n) 10 bs in
    let e : length (listed x) ≡ length (a ++ (b ++ d)) = ap length (sym (numbers_are bs x c)) in
    omega (arith, e, length-append a (b ++ d), length-append b d, pairs_long 2 1 8 bs, pairs_long n 22 13 bs, pairs_long k (19 + 13 * n) 10 bs)

-- a card's numbers are written where the list has room for them, and numbers past them stay; else 37, and all stay
pub numbers_written : (bs out : List ℕ) (x : Numbers) → Card bs x → length (listed x) ≤ length out
    → (numbers_of bs (length out) ≡ carded x.n (length x.leaders)) × (list_of bs out ≡ written out 0 (listed x))
numbers_written bs out x c h =
    let q = card_checked bs x c in
    let l : many_of x.n (length x.leaders) ≤ length out = omega (arith, listed_long bs x c) in (
      sym (card_answer bs out (check_of bs) refl _ q l),
      sym (card_list bs out (check_of bs) refl _ q l) ∙ ap (written out 0) (numbers_are bs x c),
    )

pub numbers_short : (bs out : List ℕ) (x : Numbers) → Card bs x → length out < length (listed x)
    → (numbers_of bs (length out) ≡ Err (bare_refusal 37)) × (list_of bs out ≡ out)
numbers_short bs out x c h =
    let q = card_checked bs x c in
    let l : length out < many_of x.n (length x.leaders) = omega (arith, listed_long bs x c) in (
      sym (short_answer bs out (check_of bs) refl _ q l),
      sym (short_list bs out (check_of bs) refl _ q l),
    )

-- bytes that are no card: their own refusal, and all stay
pub numbers_refused : (bs out : List ℕ) (x : Refusal) → CardRefuses bs x
    → (numbers_of bs (length out) ≡ Err x) × (list_of bs out ≡ out)
numbers_refused bs out x r =
    let q = refuses_checked bs x r in
    (sym (refused_answer bs out (check_of bs) refl x q), sym (refused_list bs out (check_of bs) refl x q))
