-- The list of records that runs promise, one run after the other, against the search for record k: the record at place k of the list is one of the
-- run that the search finds; by induction over the runs.
use Prim.Native.Nat.{ℕ, zero, suc, ◌+◌, ◌-◌, ◌*◌, ◌≤◌, ◌<◌}
use mathlib.Core.Path.{◌≡◌, refl, sym, ap, ap₂, ◌∙◌, subst}
use mathlib.Core.List.{List, [], ◌∷◌, ◌++◌}
use mathlib.Core.Bool.{Bool, true, false}
use native.Mathlib.Omega.{arith}
use native.Mathlib.Nat.{add-zero}
use lib.Dec.{ltb}
use lib.ListN.{length, get_or, drop, replicate, length-append, length-replicate, get_or-replicate, drop_of_length-le, get_or-append}
use borrow.Author.Tests.{ltb-true, ltb-false}
use Rattle.words.specs.Tests.{pick}
use Rattle.plan.specs.Plan.{spot_from, sum_of}
use Rattle.plan.specs.declared.Spot.{Spot}
use Rattle.plan.proofs.RunLaws.{drop_more}

-- the records of runs from run i on, by what is due in each run, however that is said
abbrev pub expand : {D : Type 1} → (ℕ → ℕ → D) → ℕ → List ℕ → List ℕ → List D
expand due i [] ls = []
expand due i (c ∷ cs) [] = []
expand due i (c ∷ cs) (l ∷ ls) = replicate c (due i l) ++ expand due (i + 1) cs ls

pub expand_length : {D : Type 1} (due : ℕ → ℕ → D) (i : ℕ) (cs ls : List ℕ) → length cs ≡ length ls → length (expand due i cs ls) ≡ sum_of cs
unfolding sum_of
expand_length due i [] ls e = refl
expand_length due i (c ∷ cs) [] e = absurd (omega arith)
expand_length due i (c ∷ cs) (l ∷ ls) e =
    let h = expand_length due (i + 1) cs ls (omega arith) in
    omega (arith, length-append (replicate c (due i l)) (expand due (i + 1) cs ls), length-replicate c (due i l))

-- the runs from j on, of which the first is run j's
pub expand_drop : {D : Type 1} (due : ℕ → ℕ → D) (i j : ℕ) (cs ls : List ℕ) → j < length cs → j < length ls
    → expand due i (drop j cs) (drop j ls) ≡ replicate (get_or cs j 0) (due i (get_or ls j 0)) ++ expand due (i + 1) (drop (j + 1) cs) (drop (j + 1) ls)
expand_drop due i j cs ls p q = rw (drop_more cs j p, drop_more ls j q)

-- the same, row by row of counts and lengths: m rows from row j on, whose runs are j + 1 and on
abbrev pub rows_from : {D : Type 1} → (ℕ → ℕ → D) → List ℕ → List ℕ → ℕ → ℕ → List D
rows_from due cs ls j zero = []
rows_from due cs ls j (suc m) = replicate (get_or cs j 0) (due (j + 1) (get_or ls j 0)) ++ rows_from due cs ls (j + 1) m

pub rows_expand : {D : Type 1} (due : ℕ → ℕ → D) (cs ls : List ℕ) (m j : ℕ) → j + m ≡ length cs → j + m ≡ length ls
    → rows_from due cs ls j m ≡ expand due (j + 1) (drop j cs) (drop j ls)
rows_expand due cs ls zero j p q = rw (drop_of_length-le cs {i = j} (omega arith))
rows_expand due cs ls (suc m) j p q =
    ap (λ (x : List _). replicate (get_or cs j 0) (due (j + 1) (get_or ls j 0)) ++ x) (rows_expand due cs ls m (j + 1) (omega arith) (omega arith))
    ∙ sym (expand_drop due (j + 1) j cs ls (omega arith) (omega arith))

-- counts and lengths that agree row by row
pub rows_same : {D : Type 1} (due : ℕ → ℕ → D) (cs ls cs' ls' : List ℕ) (m j : ℕ)
    → ((i : ℕ) → i < j + m → (get_or cs i 0 ≡ get_or cs' i 0) × (get_or ls i 0 ≡ get_or ls' i 0)) → rows_from due cs ls j m ≡ rows_from due cs' ls' j m
rows_same due cs ls cs' ls' zero j h = refl
rows_same due cs ls cs' ls' (suc m) j h =
    let e = h j (omega arith) in
    ap₂ (λ (x y : List _). x ++ y) (ap₂ (λ (n l : ℕ). replicate n (due (j + 1) l)) e.0 e.1)
    (rows_same due cs ls cs' ls' m (j + 1) (λ i l. h i (omega arith)))

get_past : {D : Type 1} (c k : ℕ) (x d : D) (r : List D) → c ≤ k → get_or (replicate c x ++ r) k d ≡ get_or r (k - c) d
get_past zero k x d r h = ap (λ (n : ℕ). get_or r n d) (let e : k ≡ k - 0 = omega arith in e)
get_past (suc c) zero x d r h = absurd (omega arith)
get_past (suc c) (suc k) x d r h = get_past c k x d r (omega arith) ∙ ap (λ (n : ℕ). get_or r n d) (let e : k - c ≡ suc k - suc c = omega arith in e)

-- record k of the runs from run i on: its run is the j-th of them, which is not empty
pub record At {D : Type 1} (due : ℕ → ℕ → D) (d : D) (i k : ℕ) (cs ls : List ℕ) (s : Spot) : Type 1 where
  pub j : ℕ
  pub run : s.run ≡ i + j
  pub long : s.length ≡ get_or ls j 0
  pub some : 1 ≤ get_or cs j 0
  pub within : j < length cs
  pub is : get_or (expand due i cs ls) k d ≡ due s.run s.length

pub spot_at : {D : Type 1} (due : ℕ → ℕ → D) (d : D) (cs ls : List ℕ) (i k at : ℕ) → length cs ≡ length ls → k < sum_of cs
    → At due d i k cs ls (spot_from i cs ls k at)
unfolding sum_of spot_from
spot_at due d [] ls i k at e h = absurd (omega arith)
spot_at due d (c ∷ cs) [] i k at e h = absurd (omega arith)
spot_at due d (c ∷ cs) (l ∷ ls) i k at e h = go (ltb k c) refl (λ p. spot_at due d cs ls (i + 1) (k - c) (at + c * l) (omega arith) (omega arith))
  where
    go : (b : Bool) → ltb k c ≡ b → (c ≤ k → At due d (i + 1) (k - c) cs ls (spot_from (i + 1) cs ls (k - c) (at + c * l)))
        → At due d i k (c ∷ cs) (l ∷ ls) (pick (ltb k c) (record { run = i; length = l; start = at + k * l }) (spot_from (i + 1) cs ls (k - c) (at + c * l)))
    go true q f =
        let p = ltb-true k c q in
        subst (λ (b : Bool). At due d i k (c ∷ cs) (l ∷ ls)
        (pick b (record { run = i; length = l; start = at + k * l }) (spot_from (i + 1) cs ls (k - c) (at + c * l)))) (sym q)
        (record {
          j = 0;
          run = sym (add-zero i);
          long = refl;
          some = omega arith;
          within = omega arith;
          is = get_or-append (replicate c (due i l)) (expand due (i + 1) cs ls) d k (rw (length-replicate c (due i l)) p) ∙ get_or-replicate c k (due i l) d p;
        })
    go false q f =
        let p = ltb-false k c q in
        let a = f p in
        subst (λ (b : Bool). At due d i k (c ∷ cs) (l ∷ ls)
        (pick b (record { run = i; length = l; start = at + k * l }) (spot_from (i + 1) cs ls (k - c) (at + c * l)))) (sym q)
        (record {
          j = suc a.j;
          run = a.run ∙ (let z : i + 1 + a.j ≡ i + suc a.j = omega arith in z);
          long = a.long;
          some = a.some;
          within = let w = a.within in omega arith;
          is = get_past c k (due i l) d (expand due (i + 1) cs ls) p ∙ a.is;
        })
