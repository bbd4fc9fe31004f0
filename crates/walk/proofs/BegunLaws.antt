-- A walk that is begun starts fresh: of a known kind `begin` hands back the fresh state, and no refusal.
use Prim.Native.Nat.{ℕ}
use mathlib.Core.Path.{◌≡◌, ap, ◌∙◌}
use mathlib.Core.List.{List}
use mathlib.Core.Bool.{Bool, true}
use native.Mathlib.Omega.{arith}
use Rattle.std.specs.Prelude.{Result, Ok, Err}
use Rattle.words.specs.declared.Refusal.{Refusal}
use Rattle.words.specs.Tests.{within_of}
use Rattle.words.proofs.Laws.{pick_true}
use Rattle.walk.specs.State.{fresh}
use Rattle.walk.specs.Walk.{walk_of, begin_of}
use Rattle.walk.specs.declared.State.{State}
use Rattle.walk.specs.declared.Walked.{Walked}

module _ (kind : ℕ) (known : within_of 1 kind 4 ≡ true) where
  pub begins : begin_of kind ≡ Ok (fresh kind)
  unfolding begin_of
  begins = pick_true _ _ _ known

  pub begun_fresh : (st : State) → Ok st ≡ begin_of kind → st ≡ fresh kind
  begun_fresh st e = let z : ◌≡◌ {A = Result State Refusal} (Ok st) (Ok (fresh kind)) = e ∙ begins in cc

  pub not_refused : (x : Refusal) → Err x ≡ begin_of kind → ⊥
  not_refused x e =
      let z : ◌≡◌ {A = Result State Refusal} (Err x) (Ok (fresh kind)) = e ∙ begins in
      let y : ◌≡◌ {A = ℕ} 0 1 = cc in omega arith

-- what is walked from there is walked from `fresh`
pub begun_walks : (kind n : ℕ) (bs : List ℕ) (c : Bool) → within_of 1 kind 4 ≡ true → (st : State) (w : Walked) → Ok st ≡ begin_of kind → w ≡ walk_of n st bs c
    → w ≡ walk_of n (fresh kind) bs c
begun_walks kind n bs c known st w begun walks = walks ∙ ap (λ (x : State). walk_of n x bs c) (begun_fresh kind known st begun)
