-- An entry's fault is the first thing wrong with it, and there is none exactly where the entry is as it must be: once for all three kinds, and each kind's
-- test is what its entry must say.
use Prim.Native.Nat.{ℕ, zero, suc, ◌+◌, ◌*◌, ◌≤◌, ◌<◌}
use mathlib.Core.Path.{◌≡◌, refl, sym, ap, ap₂, ◌∙◌, subst}
use mathlib.Core.List.{List, ◌++◌}
use mathlib.Core.Bool.{Bool, true, false, false≢true}
use mathlib.Core.Logic.{inl, inr, ⊎_elim}
use native.Mathlib.Omega.{arith}
use lib.Dec.{eqb, leb}
use lib.ListN.{length, take, drop, take-append-drop, length-append, get_or-append}
use lib.Seq.{length-take-le}
use borrow.Author.Tests.{eq-eqb, ne_eqb, eqb-true, eqb-false, lt-ltb, le-ltb, ltb-true, ltb-false, leb-true, le-leb}
use Rattle.std.specs.Prelude.{Ok, Err}
use Rattle.words.specs.Tests.{pick, both_of, within_of}
use Rattle.words.specs.Words.{byte_at, four_at}
use Rattle.words.proofs.Laws.{four_bytes, both_l, both_r, both_make, cases, within_true, true_within}
use Rattle.plan.specs.Tables.{last_sort, sort_of as sort_of'}
use Rattle.plan.specs.Plan.{group_of, ahead_of, plan_good, image_good, image_ranges, image_agrees, slots_zero?, all_zero}
use Rattle.plan.specs.declared.Plan.{Plan}
use Rattle.entry.specs.Entry.{kind_of, whole_of}
use Rattle.card_theorems.specs.Card.{First, Kind, Wrong, unknown, cut, order, Missing, IsFirst, IsLine, IsLeader}
use Rattle.promises.specs.Rules.{sort_of}
use Rattle.promises.proofs.Sorts.{group_same, ahead_same}
use Rattle.cards.specs.Check.{body_of, fault_of, sort_by, plan_from, first_holds, line_holds, leader_holds}
use Rattle.cards.proofs.EntryLaws.{fault_none, fault_unknown, fault_cut, fault_by, passes}

-- ---- numbers of an entry, whatever follows it

pub byte_front : (r left : List ℕ) (i : ℕ) → i < length r → byte_at (r ++ left) i ≡ byte_at r i
byte_front r left i h = get_or-append r left 0 i h

pub four_front : (r left : List ℕ) (i : ℕ) → i + 4 ≤ length r → four_at (r ++ left) i ≡ four_at r i
four_front r left i h =
    sym (four_bytes (r ++ left) i)
    ∙ rw (
      byte_front r left i (omega arith),
      byte_front r left (i + 1) (omega arith),
      byte_front r left (i + 2) (omega arith),
      byte_front r left (i + 3) (omega arith),
    ) (four_bytes r i)

-- ---- kinds

pub kind_body : (k body : ℕ) → Kind k body → body_of k ≡ body
unfolding body_of
kind_body k body h =
    ⊎_elim (λ a. ap body_of a.0 ∙ sym a.1) (⊎_elim (λ a. ap body_of a.0 ∙ sym a.1) (λ a. ap body_of a.0 ∙ sym a.1)) h

kind_some : (k body : ℕ) → Kind k body → body ≡ 0 → ⊥
kind_some k body h z = ⊎_elim (λ a. omega (arith, a)) (⊎_elim (λ a. omega (arith, a)) (λ a. omega (arith, a))) h

pub body_kind : (k : ℕ) → (body_of k ≡ 0 → ⊥) → Kind k (body_of k)
unfolding body_of
body_kind k h = go (eqb k 1) (eqb k 2) (eqb k 3) refl refl refl h
  where
    go : (a b c : Bool) → eqb k 1 ≡ a → eqb k 2 ≡ b → eqb k 3 ≡ c → (◌≡◌ {A = ℕ} (pick a 16 (pick b 12 (pick c 9 0))) 0 → ⊥)
        → Kind k (pick a 16 (pick b 12 (pick c 9 0)))
    go true b c p q r n = inl (eqb-true k 1 p, refl)
    go false true c p q r n = inr (inl (eqb-true k 2 q, refl))
    go false false true p q r n = inr (inr (eqb-true k 3 r, refl))
    go false false false p q r n = absurd (n refl)

-- ---- a test that judges an entry of a kind

pub record Judges (want body : ℕ) (Is : List ℕ → Type 0) (holds : List ℕ → Bool) : Type 0 where
  pub known : Kind want body
  pub front : (r left : List ℕ) → length r ≡ 1 + body → holds (r ++ left) ≡ holds r
  pub to : (r : List ℕ) → length r ≡ 1 + body → kind_of r ≡ want → holds r ≡ true → Is r
  pub size : (r : List ℕ) → Is r → length r ≡ 1 + body
  pub kind : (r : List ℕ) → Is r → kind_of r ≡ want
  pub from : (r : List ℕ) → Is r → holds r ≡ true

module _ {want body : ℕ} {Is : List ℕ → Type 0} {holds : List ℕ → Bool} (j : Judges want body Is holds) where
  -- an entry that is as it must be passes, whatever follows
  pub entry_passes : (r left : List ℕ) → Is r → fault_of want (holds (r ++ left)) (r ++ left) ≡ Ok tt
  entry_passes r left i =
      let s = j.size r i in
      let long = length-append r left in
      let k : kind_of (r ++ left) ≡ want = byte_front r left 0 (omega arith) ∙ j.kind r i in
      let b : body_of (kind_of (r ++ left)) ≡ body = ap body_of k ∙ kind_body want body j.known in
      fault_by want (holds (r ++ left)) (r ++ left) (λ z. omega arith) (λ z. kind_some want body j.known (sym b ∙ z)) true
      (ap (λ (x : ℕ). whole_of x (r ++ left)) b ∙ lt-ltb body (length (r ++ left)) (omega arith))
      (both_make _ _ (eq-eqb (kind_of (r ++ left)) want k) (j.front r left s ∙ j.from r i))

  whole_cut : (bs : List ℕ) → 1 + body ≤ length bs → holds bs ≡ holds (take (1 + body) bs)
  whole_cut bs h = ap holds (sym (take-append-drop (1 + body) bs)) ∙ j.front (take (1 + body) bs) (drop (1 + body) bs) (length-take-le (1 + body) bs h)

  kind_cut : (bs : List ℕ) → 1 + body ≤ length bs → kind_of (take (1 + body) bs) ≡ kind_of bs
  kind_cut bs h =
      sym (byte_front (take (1 + body) bs) (drop (1 + body) bs) 0 (omega (arith, length-take-le (1 + body) bs h)))
      ∙ ap kind_of (take-append-drop (1 + body) bs)

  -- one that passes is as it must be
  pub passes_is : (bs : List ℕ) → fault_of want (holds bs) bs ≡ Ok tt → (1 + body ≤ length bs) × Is (take (1 + body) bs)
  passes_is bs e =
      let p = passes want (holds bs) bs e in
      let h : 1 + body ≤ length bs = subst (λ (b : ℕ). 1 + b ≤ length bs) (kind_body want body j.known) p.whole in
      (h, j.to (take (1 + body) bs) (length-take-le (1 + body) bs h) (kind_cut bs h ∙ p.kind) (sym (whole_cut bs h) ∙ p.holds'))

  -- a fault is the first thing wrong
  pub fault_wrong : (bs : List ℕ) (m : ℕ) → fault_of want (holds bs) bs ≡ Err m → Missing Is bs m
  fault_wrong bs m e =
      ⊎_elim (λ a. let l = eqb-true (length bs) 0 a in inl (l, is (fault_none want (holds bs) bs l)))
      (λ a. inr (some (eqb-false (length bs) 0 a))) (cases (eqb (length bs) 0))
    where
      is : {k : ℕ} → fault_of want (holds bs) bs ≡ Err k → m ≡ k
      is q = cc

      whole : (length bs ≡ 0 → ⊥) → (known : body_of (kind_of bs) ≡ 0 → ⊥) → (t : Bool) → whole_of (body_of (kind_of bs)) bs ≡ true
          → both_of (eqb (kind_of bs) want) (holds bs) ≡ t → Wrong Is bs m
      whole n known true w q = let p = fault_by want (holds bs) bs n known true w q in absurd cc
      whole n known false w q =
          let l = ltb-true (body_of (kind_of bs)) (length bs) w in
          order (body_of (kind_of bs)) (body_kind (kind_of bs) known) (omega arith) (λ i. false≢true (sym q ∙ holding i))
          (is (fault_by want (holds bs) bs n known false w q))
        where
          holding : Is (take (1 + body_of (kind_of bs)) bs) → both_of (eqb (kind_of bs) want) (holds bs) ≡ true
          holding i =
              let l = ltb-true (body_of (kind_of bs)) (length bs) w in
              let s = j.size (take (1 + body_of (kind_of bs)) bs) i in
              let b : body_of (kind_of bs) ≡ body = omega (arith, length-take-le (1 + body_of (kind_of bs)) bs (omega arith), s) in
              let i' = subst (λ (x : ℕ). Is (take (1 + x) bs)) b i in
              let h : 1 + body ≤ length bs = omega arith in
              both_make _ _ (eq-eqb (kind_of bs) want (sym (kind_cut bs h) ∙ j.kind (take (1 + body) bs) i')) (whole_cut bs h ∙ j.from (take
              (1 + body) bs) i')

      known : (length bs ≡ 0 → ⊥) → (body_of (kind_of bs) ≡ 0 → ⊥) → Wrong Is bs m
      known n k =
          ⊎_elim (λ w. whole n k (both_of (eqb (kind_of bs) want) (holds bs)) w refl)
          (λ w. cut (body_of (kind_of bs)) (omega arith) (body_kind (kind_of bs) k) (omega (arith, ltb-false (body_of (kind_of bs)) (length bs) w))
          (is (fault_cut want (holds bs) bs n k w))) (cases (whole_of (body_of (kind_of bs)) bs))

      some : (length bs ≡ 0 → ⊥) → Wrong Is bs m
      some n =
          ⊎_elim
          (λ a. let b = eqb-true (body_of (kind_of bs)) 0 a in
          unknown (omega arith) (λ body' k. kind_some (kind_of bs) body' k (sym (kind_body (kind_of bs) body' k) ∙ b))
          (is (fault_unknown want (holds bs) bs n b)))
          (λ a. known n (eqb-false (body_of (kind_of bs)) 0 a)) (cases (eqb (body_of (kind_of bs)) 0))

  -- and the other way: what is first wrong is the fault
  pub wrong_fault : (bs : List ℕ) (m : ℕ) → Wrong Is bs m → fault_of want (holds bs) bs ≡ Err m
  wrong_fault bs m (unknown n h q) =
      let b : body_of (kind_of bs) ≡ 0 =
      ⊎_elim (λ a. eqb-true (body_of (kind_of bs)) 0 a) (λ a. absurd (h (body_of (kind_of bs)) (body_kind (kind_of bs) (eqb-false (body_of (kind_of bs)) 0 a))))
      (cases (eqb (body_of (kind_of bs)) 0)) in
      fault_unknown want (holds bs) bs (λ z. omega arith) b ∙ ap Err (sym q)
  wrong_fault bs m (cut b n k s q) =
      let e = kind_body (kind_of bs) b k in
      fault_cut want (holds bs) bs (λ z. omega arith) (λ z. kind_some (kind_of bs) b k (sym e ∙ z))
      (le-ltb (body_of (kind_of bs)) (length bs) (omega arith)) ∙ ap Err (sym q)
  wrong_fault bs m (order b k s n q) =
      let e = kind_body (kind_of bs) b k in
      let w = lt-ltb (body_of (kind_of bs)) (length bs) (omega arith) in
      let known : body_of (kind_of bs) ≡ 0 → ⊥ = λ z. kind_some (kind_of bs) b k (sym e ∙ z) in
      go (both_of (eqb (kind_of bs) want) (holds bs)) refl known w ∙ ap Err (sym q)
    where
      go : (t : Bool) → both_of (eqb (kind_of bs) want) (holds bs) ≡ t → (body_of (kind_of bs) ≡ 0 → ⊥) → whole_of (body_of (kind_of bs)) bs ≡ true
          → fault_of want (holds bs) bs ≡ Err 22
      go false p known w = fault_by want (holds bs) bs (λ z. omega arith) known false w p
      go true p known w =
          let fine = fault_by want (holds bs) bs (λ z. omega arith) known true w p in
          let r = passes_is bs fine in
          let same : b ≡ body =
          sym (kind_body (kind_of bs) b k)
          ∙ ap body_of (eqb-true (kind_of bs) want (both_l (eqb (kind_of bs) want) (holds bs) p))
          ∙ kind_body want body j.known in
          absurd (n (subst (λ (x : ℕ). Is (take (1 + x) bs)) (sym same) r.1))

  pub missing_fault : (bs : List ℕ) (m : ℕ) → Missing Is bs m → fault_of want (holds bs) bs ≡ Err m
  missing_fault bs m h =
      ⊎_elim (λ a. fault_none want (holds bs) bs a.0 ∙ ap Err (sym a.1)) (wrong_fault bs m) h

-- ---- the three kinds

pub judges_line : (w k : ℕ) → Judges 2 12 (IsLine w k) (line_holds k w)
unfolding line_holds
judges_line w k =
    record {
      known = inr (inl (refl, refl));
      front = λ r left s.
          rw (four_front r left 1 (omega arith), four_front r left 5 (omega arith), four_front r left 9 (omega arith));
      to = λ r s q h. (
        record { left = four_at r 5; count = four_at r 9 },
        record {
          is = record { size = s; kind = q };
          number = eqb-true (four_at r 1) k (both_l (eqb (four_at r 1) k) (leb (four_at r 5 + four_at r 9) w) h);
          left = refl;
          count = refl;
          fits = leb-true (four_at r 5 + four_at r 9) w (both_r (eqb (four_at r 1) k) (leb (four_at r 5 + four_at r 9) w) h);
        },
      );
      size = λ r i. i.1.is.size;
      kind = λ r i. i.1.is.kind;
      from = λ r i. both_make _ _ (eq-eqb (four_at r 1) k i.1.number)
          (le-leb (four_at r 5 + four_at r 9) w (omega (arith, i.1.left, i.1.count, i.1.fits)));
    }

pub judges_leader : (sum k : ℕ) → Judges 3 9 (IsLeader sum k) (leader_holds k sum)
unfolding leader_holds
judges_leader sum k =
    record {
      known = inr (inr (refl, refl));
      front = λ r left s. rw (byte_front r left 1 (omega arith), four_front r left 2 (omega arith));
      to = λ r s q h. (
        record { start = four_at r 2; long = four_at r 6 },
        record {
          is = record { size = s; kind = q };
          ordinal = eqb-true (byte_at r 1) k (both_l (eqb (byte_at r 1) k) (eqb (four_at r 2) sum) h);
          start = refl;
          long = refl;
          behind = eqb-true (four_at r 2) sum (both_r (eqb (byte_at r 1) k) (eqb (four_at r 2) sum) h);
        },
      );
      size = λ r i. i.1.is.size;
      kind = λ r i. i.1.is.kind;
      from = λ r i. both_make _ _ (eq-eqb (byte_at r 1) k i.1.ordinal) (eq-eqb (four_at r 2) sum (i.1.start ∙ i.1.behind));
    }

-- kind 1 has an image's numbers
first_ranges : (r : List ℕ) → length r ≡ 17 → kind_of r ≡ 1 → first_holds r ≡ true → First r (four_at r 1) (four_at r 5) (four_at r 9) (four_at r 13)
unfolding first_holds plan_good image_good
first_ranges r s q h =
    let p : Plan = plan_from r in
    let g = both_r (both_of (eqb p.pointers 0) (slots_zero? p)) (both_of (image_ranges p) (image_agrees p)) h in
    let ranges = both_l (image_ranges p) (image_agrees p) g in
    let agrees = both_r (image_ranges p) (image_agrees p) g in
    let b = both_r (within_of 1 p.n 999999) _ ranges in
    let c = both_r (within_of 1 p.l 999999) _ b in
    let d = both_r (within_of 1 p.w 99999999) _ c in
    let e = both_r (within_of 1 p.d 99999999) _ d in
    record {
      is = record { size = s; kind = q };
      says_n = refl;
      says_l = refl;
      says_w = refl;
      says_d = refl;
      n_range = within_true 1 p.n 999999 (both_l _ _ ranges);
      l_range = within_true 1 p.l 999999 (both_l _ _ b);
      w_range = within_true 1 p.w 99999999 (both_l _ _ c);
      d_range = within_true 1 p.d 99999999 (both_l _ _ d);
      sort = p.sort;
      known = (within_true 0 p.sort last_sort (both_r (within_of 0 p.s 9999) _ e)).1;
      paired = eqb-true p.d (group_of p * p.w) (both_l _ _ agrees) ∙ ap (λ (i : ℕ). i * p.w) (group_same p.sort);
      room = omega (arith, leb-true (ahead_of p + p.d + 0) p.l (both_r (eqb p.d (group_of p * p.w)) _ agrees), ahead_same p.sort);
    }

-- the sort is found by d, since there are pixels
sort_found : (i w d : ℕ) → i ≤ 1 → 1 ≤ w → d ≡ (sort_of i).group * w → sort_by w d ≡ i
unfolding sort_of'
sort_found zero w d h some e = ap (λ (b : Bool). pick b 1 0) (ne_eqb d (8 * w) (λ q. omega arith))
sort_found (suc zero) w d h some e = ap (λ (b : Bool). pick b 1 0) (eq-eqb d (8 * w) e)
sort_found (suc (suc i)) w d h some e = absurd (omega arith)

ranges_first : (r : List ℕ) (n l w d : ℕ) → First r n l w d → first_holds r ≡ true
unfolding first_holds plan_good image_good all_zero
ranges_first r n l w d f =
    let p : Plan = plan_from r in
    let s : p.sort ≡ f.sort = ap₂ sort_by f.says_w f.says_d ∙ sort_found f.sort w d f.known f.w_range.0 f.paired in
    let g : group_of p ≡ (sort_of f.sort).group = ap (λ (i : ℕ). (sort_of' i).group) s ∙ group_same f.sort in
    let a : ahead_of p ≡ (sort_of f.sort).ahead = ap (λ (i : ℕ). (sort_of' i).ahead) s ∙ ahead_same f.sort in
    let k = f.known in
    both_make (image_ranges p) (image_agrees p)
    (both_make _ _ (true_within 1 p.n 999999 (omega (arith, f.says_n, f.n_range)) (omega (arith, f.says_n, f.n_range)))
    (both_make _ _ (true_within 1 p.l 999999 (omega (arith, f.says_l, f.l_range)) (omega (arith, f.says_l, f.l_range)))
    (both_make _ _ (true_within 1 p.w 99999999 (omega (arith, f.says_w, f.w_range)) (omega (arith, f.says_w, f.w_range)))
    (both_make _ _ (true_within 1 p.d 99999999 (omega (arith, f.says_d, f.d_range)) (omega (arith, f.says_d, f.d_range)))
    (both_make _ _ refl (true_within 0 p.sort last_sort (omega arith) (omega (arith, s, k))))))))
    (both_make _ _ (eq-eqb p.d (group_of p * p.w) (f.says_d ∙ f.paired ∙ ap₂ (λ (i x : ℕ). i * x) (sym g) (sym f.says_w)))
    (le-leb (ahead_of p + p.d + 0) p.l (omega (arith, f.says_d, f.says_l, f.room, a))))

pub judges_first : Judges 1 16 IsFirst first_holds
unfolding first_holds
judges_first =
    record {
      known = inl (refl, refl);
      front = λ r left s.
          rw (four_front r left 1 (omega arith), four_front r left 5 (omega arith), four_front r left 9 (omega arith), four_front r left 13 (omega arith));
      to = λ r s q h. (four_at r 1, four_at r 5, four_at r 9, four_at r 13, first_ranges r s q h);
      size = λ r i. i.4.is.size;
      kind = λ r i. i.4.is.kind;
      from = λ r i. ranges_first r i.0 i.1 i.2 i.3 i.4;
    }
