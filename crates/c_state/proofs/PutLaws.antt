-- A state's numbers, written one after the other: the array so far is the numbers written, then the old ones behind them.
use Prim.Native.Nat.{ℕ, ◌+◌, ◌-◌, ◌*◌, ◌/◌, ◌%◌, ◌≤◌, ◌<◌}
use mathlib.Core.Path.{◌≡◌, refl, sym, ap, ◌∙◌}
use mathlib.Core.List.{List, ◌++◌}
use native.Mathlib.Omega.{arith}
use lib.ListN.{length, get_or, set, drop, length-set}
use lib.Seq.{drop-set-lt}
use borrow.Author.Tests.{lt-ltb, le-ltb}
use Rattle.plan.specs.Tables.{rows}
use Rattle.walk.specs.declared.State.{State}
use Rattle.c_state.specs.Numbers.{list_from, pair_number, state_number, numbers_of}
use Rattle.c_state.proofs.ListLaws.{written_more}

-- the array, n numbers of which are written over the old ones
abbrev pub Put : State → ℕ → List ℕ → List ℕ → Type 0
Put st n old now = now ≡ list_from (state_number st) 0 n ++ drop n old

put_more : (st : State) (n m v : ℕ) (old now : List ℕ) → n < length old → m ≡ n + 1 → v ≡ state_number st n → Put st n old now → Put st m old (set now n v)
put_more st n m v old now h e q p =
    ap (λ (l : List ℕ). set l n v) p ∙ written_more (state_number st) n v old h q
    ∙ ap (λ (i : ℕ). list_from (state_number st) 0 i ++ drop i old) (sym e)

put_none : (st : State) (old : List ℕ) → Put st 0 old old
unfolding list_from
put_none st old = refl

-- a count, and a length, by their places among the numbers
count_at_lem : (st : State) (j : ℕ) → j < rows → get_or st.plan.counts j 0 ≡ state_number st (3 + 2 * j)
unfolding state_number pair_number
count_at_lem st j h =
    let a : 3 ≤ 3 + 2 * j = omega arith in
    let b : 3 + 2 * j < 37 = omega arith in
    let i : 3 + 2 * j - 3 ≡ 2 * j = omega arith in
    let even : 2 * j % 2 ≡ 0 = omega arith in
    let half : 2 * j / 2 ≡ j = omega arith in
    simp (le-ltb (3 + 2 * j) 3 a, lt-ltb (3 + 2 * j) 37 b, i, even, half)

length_at : (st : State) (j : ℕ) → j < rows → get_or st.plan.lengths j 0 ≡ state_number st (4 + 2 * j)
unfolding state_number pair_number
length_at st j h =
    let a : 3 ≤ 4 + 2 * j = omega arith in
    let b : 4 + 2 * j < 37 = omega arith in
    let i : 4 + 2 * j - 3 ≡ 2 * j + 1 = omega arith in
    let odd : (2 * j + 1) % 2 ≡ 1 = omega arith in
    let half : (2 * j + 1) / 2 ≡ j = omega arith in
    simp (le-ltb (4 + 2 * j) 3 a, lt-ltb (4 + 2 * j) 37 b, i, odd, half)

-- the three numbers before the pairs
module _ (st : State) (old : List ℕ) (long : 43 ≤ length old) where
  abbrev pub three : List ℕ
  three = set (set (set old 0 st.kind) 1 st.passed) 2 st.plan.pointers

  pub three_long : length three ≡ length old
  three_long = simp length-set

  three_behind : (n : ℕ) → 3 ≤ n → drop n three ≡ drop n old
  three_behind n h =
      drop-set-lt n (set (set old 0 st.kind) 1 st.passed) 2 st.plan.pointers (omega arith)
      ∙ drop-set-lt n (set old 0 st.kind) 1 st.passed (omega arith) ∙ drop-set-lt n old 0 st.kind (omega arith)

  pub three_put : Put st 3 three three
  unfolding state_number
  three_put =
      put_more st 2 3 st.plan.pointers old (set (set old 0 st.kind) 1 st.passed) (omega arith) refl refl
      (put_more st 1 2 st.passed old (set old 0 st.kind) (omega arith) refl refl
      (put_more st 0 1 st.kind old old (omega arith) refl refl (put_none st old)))
      ∙ ap (λ (l : List ℕ). list_from (state_number st) 0 3 ++ l) (sym (three_behind 3 (omega arith)))

  -- the pairs, one after the other
  pub pair_put : (j : ℕ) (now : List ℕ) → j < rows → Put st (3 + 2 * j) three now
      → Put st (3 + 2 * (j + 1)) three (set (set now (3 + 2 * j) (get_or st.plan.counts j 0)) (4 + 2 * j) (get_or st.plan.lengths j 0))
  pair_put j now h p =
      put_more st (4 + 2 * j) (3 + 2 * (j + 1)) (get_or st.plan.lengths j 0) three (set now (3 + 2 * j) (get_or st.plan.counts j 0))
      (omega (arith, three_long)) (omega arith) (length_at st j h)
      (put_more st (3 + 2 * j) (4 + 2 * j) (get_or st.plan.counts j 0) three now (omega (arith, three_long)) (omega arith) (count_at_lem st j h) p)

  -- the six behind them
  pub six_put : (now : List ℕ) → Put st 37 three now
      → set (set (set (set (set (set now 37 st.plan.n) 38 st.plan.l) 39 st.plan.w) 40 st.plan.d) 41 st.plan.s) 42 st.plan.sort ≡
      numbers_of st ++ drop 43 old
  unfolding state_number numbers_of
  six_put now p =
      let a = set now 37 st.plan.n in
      let b = set a 38 st.plan.l in
      let c = set b 39 st.plan.w in
      let d = set c 40 st.plan.d in
      let e = set d 41 st.plan.s in
      let l = three_long in
      put_more st 42 43 st.plan.sort three e (omega arith) refl refl
      (put_more st 41 42 st.plan.s three d (omega arith) refl refl
      (put_more st 40 41 st.plan.d three c (omega arith) refl refl
      (put_more st 39 40 st.plan.w three b (omega arith) refl refl
      (put_more st 38 39 st.plan.l three a (omega arith) refl refl
      (put_more st 37 38 st.plan.n three now (omega arith) refl refl p)))))
      ∙ ap (λ (l : List ℕ). list_from (state_number st) 0 43 ++ l) (three_behind 43 (omega arith))

  -- there is room for each number, since a store leaves the array as long as it was
  pub room_1 : 1 < length (set old 0 st.kind)
  room_1 = simp length-set (omega arith)

  pub room_2 : 2 < length (set (set old 0 st.kind) 1 st.passed)
  room_2 = simp length-set (omega arith)

  module _ (now : List ℕ) (same : length now ≡ length three) where
    pub room : (n : ℕ) → n < 43 → n < length now
    room n h = omega (arith, three_long)

    pub pair_long : (j : ℕ) → length (set (set now (3 + 2 * j) (get_or st.plan.counts j 0)) (4 + 2 * j) (get_or st.plan.lengths j 0)) ≡ length three
    pair_long j = simp length-set (same ∙ three_long)

    pub pair_room : (j : ℕ) → j < rows → 4 + 2 * j < length (set now (3 + 2 * j) (get_or st.plan.counts j 0))
    pair_room j h = simp length-set (room (4 + 2 * j) (omega arith))

    pub room_38 : 38 < length (set now 37 st.plan.n)
    room_38 = simp length-set (room 38 (omega arith))

    pub room_39 : 39 < length (set (set now 37 st.plan.n) 38 st.plan.l)
    room_39 = simp length-set (room 39 (omega arith))

    pub room_40 : 40 < length (set (set (set now 37 st.plan.n) 38 st.plan.l) 39 st.plan.w)
    room_40 = simp length-set (room 40 (omega arith))

    pub room_41 : 41 < length (set (set (set (set now 37 st.plan.n) 38 st.plan.l) 39 st.plan.w) 40 st.plan.d)
    room_41 = simp length-set (room 41 (omega arith))

    pub room_42 : 42 < length (set (set (set (set (set now 37 st.plan.n) 38 st.plan.l) 39 st.plan.w) 40 st.plan.d) 41 st.plan.s)
    room_42 = simp length-set (room 42 (omega arith))

    pub six_long : length (set (set (set (set (set (set now 37 st.plan.n) 38 st.plan.l) 39 st.plan.w) 40 st.plan.d) 41 st.plan.s) 42
        st.plan.sort)
        ≡ length old
    six_long = simp length-set (same ∙ three_long)
