-- The rules' table of image sorts and the plan's have the same numbers, row by row, and a descriptor's text names its sort, since the texts differ in
-- their first byte.
use Prim.Native.Nat.{ℕ, zero, suc, ◌+◌, ◌≤◌}
use mathlib.Core.Path.{◌≡◌, refl, ap}
use mathlib.Core.List.{List, [], ◌∷◌}
use mathlib.Core.Bool.{Bool, true}
use native.Mathlib.Omega.{arith}
use lib.Dec.{eqb}
use lib.ListN.{length}
use borrow.Author.Tests.{eqb-true}
use Rattle.words.specs.Tests.{pick, both_of}
use Rattle.words.specs.Words.{byte_at, place_of}
use Rattle.words.proofs.Laws.{both_l}
use Rattle.decimal.specs.Text.{bytes}
use Rattle.plan.specs.Tables.{sort_of as sort_of'}
use Rattle.verdicts.specs.Tests.{text_at}
use Rattle.image.specs.Image.{sort_in}
use Rattle.promises.specs.Rules.{sort_of}

pub group_same : (i : ℕ) → (sort_of' i).group ≡ (sort_of i).group
unfolding sort_of'
group_same zero = refl
group_same (suc zero) = refl
group_same (suc (suc i)) = refl

pub ahead_same : (i : ℕ) → (sort_of' i).ahead ≡ (sort_of i).ahead
unfolding sort_of'
ahead_same zero = refl
ahead_same (suc zero) = refl
ahead_same (suc (suc i)) = refl

pub code_same : (i : ℕ) → (sort_of' i).code ≡ (sort_of i).code
unfolding sort_of'
code_same zero = refl
code_same (suc zero) = refl
code_same (suc (suc i)) = refl

pub text_same : (i : ℕ) → i ≤ 1 → (sort_of' i).text ≡ bytes (sort_of i).text
unfolding sort_of'
text_same zero h = refl
text_same (suc zero) h = refl
text_same (suc (suc i)) h = absurd (omega arith)

-- a text has four bytes at most
pub text_short : (i : ℕ) → length (bytes (sort_of i).text) ≤ 4
text_short zero = omega arith
text_short (suc zero) = omega arith
text_short (suc (suc i)) = omega arith

-- the sorts that there are have a line's numbers ahead of their pixels
pub ahead_least : (i : ℕ) → i ≤ 1 → 192 ≤ (sort_of i).ahead
ahead_least zero h = omega arith
ahead_least (suc zero) h = omega arith
ahead_least (suc (suc i)) h = absurd (omega arith)

-- the text that stands at 429 names its sort
pub sort_is : (r : List ℕ) (i : ℕ) → i ≤ 1 → text_at r (place_of 429) (sort_of' i).text ≡ true → sort_in r ≡ i
unfolding sort_of' text_at
sort_is r zero h e =
    let first : byte_at r (place_of 429) ≡ 73 = eqb-true _ _ (both_l (eqb (byte_at r (place_of 429)) 73) _ e) in
    ap (λ (x : ℕ). pick (both_of (eqb x 67) (text_at r (place_of 429 + 1) (42 ∷ 56 ∷ 32 ∷ []))) 1 0) first
sort_is r (suc zero) h e = ap (λ (b : Bool). pick b 1 0) e
sort_is r (suc (suc i)) h e = absurd (omega arith)
