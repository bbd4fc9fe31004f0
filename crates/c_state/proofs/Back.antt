-- A state that crosses the boundary comes back as it was: its numbers are the state's, by computing each of the 43, so a state may be kept in C and handed
-- in again.
use Rattle.plan.specs.Tables.{rows}
use Prim.Native.Nat.{ℕ, ◌≤◌}
use mathlib.Core.Path.{◌≡◌, refl, sym, ap, ap₂, ◌∙◌}
use mathlib.Core.List.{List, ◌++◌}
use lib.ListN.{length, get_or, take, drop, take-append-drop}
use lib.Seq.{length-take-le, get_or-take}
use Rattle.walk.specs.declared.State.{State}
use Rattle.c_state.specs.Numbers.{list_from, pair_number, state_number, numbers_of, every_second, state_in}
use Rattle.c_state.proofs.ListLaws.{fill_done, from_length}

-- the numbers of a list, read one by one
read_all : (l : List ℕ) → l ≡ list_from (λ (i : ℕ). get_or l i 0) 0 (length l)
read_all l = fill_done (λ (i : ℕ). get_or l i 0) l (length l) refl (λ k h. refl)

read_first : (n : ℕ) (l : List ℕ) → n ≤ length l → take n l ≡ list_from (λ (i : ℕ). get_or l i 0) 0 n
read_first n l h = fill_done (λ (i : ℕ). get_or l i 0) (take n l) n (length-take-le n l h) (λ k t. get_or-take n l k 0 t)

-- the numbers of the state that the numbers are
pub numbers_back : (l : List ℕ) → 43 ≤ length l → numbers_of (state_in l) ≡ take 43 l
unfolding numbers_of state_number pair_number list_from state_in every_second
numbers_back l h = sym (read_first 43 l h)

-- the state that a state's numbers are, whatever stands behind them
pub state_back : (st : State) (xs : List ℕ) → length st.plan.counts ≡ rows → length st.plan.lengths ≡ rows → state_in (numbers_of st ++ xs) ≡ st
unfolding numbers_of state_number pair_number list_from state_in every_second
state_back st xs c l =
    ap₂ (λ (a b : List ℕ). record {
      kind = st.kind;
      passed = st.passed;
      plan = record {
        pointers = st.plan.pointers;
        counts = a;
        lengths = b;
        n = st.plan.n;
        l = st.plan.l;
        w = st.plan.w;
        d = st.plan.d;
        s = st.plan.s;
        sort = st.plan.sort;
      };
    })
    (sym (read_all st.plan.counts ∙ ap (list_from (λ (i : ℕ). get_or st.plan.counts i 0) 0) c))
    (sym (read_all st.plan.lengths ∙ ap (list_from (λ (i : ℕ). get_or st.plan.lengths i 0) 0) l))

-- the numbers of the state given are left as they are
pub same_numbers : (s : List ℕ) → 43 ≤ length s → numbers_of (state_in s) ++ drop (length (numbers_of (state_in s))) s ≡ s
unfolding numbers_of
same_numbers s h =
    ap (λ (n : ℕ). numbers_of (state_in s) ++ drop n s) (from_length (state_number (state_in s)) 0 43)
    ∙ ap (λ (l : List ℕ). l ++ drop 43 s) (numbers_back s h)
    ∙ take-append-drop 43 s
