-- The plan's rows are filled pair by pair: once every pair is read, each row has the number of its own pair, since no two admitted pairs share a row.
use Prim.Native.Nat.{ℕ, ◌+◌, ◌<◌}
use mathlib.Core.Path.{◌≡◌, refl, sym, ap, ◌∙◌}
use mathlib.Core.List.{List, map}
use mathlib.Core.Bool.{Bool, true, false}
use native.Mathlib.Omega.{arith}
use lib.Dec.{eqb}
use lib.ListN.{length, get_or, set}
use lib.Seq.{get_or-set_same, get_or-set_other}
use borrow.Author.Tests.{eqb-true, eqb-false}
use Rattle.std.specs.Prelude.{Option, Some, None}
use Rattle.plan.specs.Tables.{rows}
use Rattle.verdicts.proofs.FillLaws.{fill_done}
use Rattle.leader.specs.Leader.{pair_row, admitted, admitted_pair}
use Rattle.leader.proofs.TableLaws.{admitted_bound, admitted_row, row_admitted}

-- each row whose pair is before pair i has that pair's number
abbrev pub Filled : (ℕ → ℕ) → List ℕ → ℕ → Type 0
Filled g a i = (j : ℕ) → j < rows → admitted_pair j < i → get_or a j 0 ≡ g (admitted_pair j)

some_is : (p q : ℕ) → Some p ≡ Some q → p ≡ q
some_is p q e = cc

some_none : (p : ℕ) → ◌≡◌ {A = Option ℕ} (Some p) None → ⊥
some_none p e = let z : ◌≡◌ {A = ℕ} 0 1 = cc in omega arith

module _ (g : ℕ → ℕ) (a : List ℕ) (i : ℕ) (h : i < 26) (old : Filled g a i) where
  -- the row of this pair takes its number, and every other row stays
  pub put_more : (v q : ℕ) → length a ≡ rows → (pair_row i).row ≡ Some q → v ≡ g i → Filled g (set a q v) (i + 1)
  put_more v q size e w j l k = go (eqb j q) refl
    where
      go : (b : Bool) → eqb j q ≡ b → get_or (set a q v) j 0 ≡ g (admitted_pair j)
      go true t =
          let n = eqb-true j q t in
          let m = row_admitted i q h e in
          let s : q < length a = omega (arith, m.0) in
          ap (λ (p : ℕ). get_or (set a q v) p 0) n ∙ get_or-set_same a q v 0 s ∙ w ∙ ap g (sym m.1) ∙ ap (λ (p : ℕ). g (admitted_pair p)) (sym n)
      go false t =
          let n = eqb-false j q t in
          let other : admitted_pair j ≡ i → ⊥ =
          λ o. n (some_is j q (sym (admitted_row j l) ∙ ap (λ (p : ℕ). (pair_row p).row) o ∙ e)) in
          get_or-set_other a q j v 0 n ∙ old j l (omega (arith, other))

  -- a pair that is not admitted fills none
  pub none_more : (pair_row i).row ≡ None → Filled g a (i + 1)
  none_more e j l k =
      let other : admitted_pair j ≡ i → ⊥ =
      λ o. some_none j (sym (admitted_row j l) ∙ ap (λ (p : ℕ). (pair_row p).row) o ∙ e) in
      old j l (omega (arith, other))

pub filled_is : (g : ℕ → ℕ) (a : List ℕ) → length a ≡ rows → Filled g a 26 → a ≡ map g admitted
unfolding admitted_pair
filled_is g a size f = fill_done 0 g a admitted size (λ k l. f k l (admitted_bound k l))
