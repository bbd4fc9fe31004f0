-- While a file arrives: the states that a walk begun fresh hands back over any number of calls, and that some accepted file begins with bytes. Assumes nothing.
use Rattle.std.specs.Prelude.{ℕ, ◌+◌, ◌≤◌, List, [], ◌∷◌, ◌++◌, Bool, length, take, eqb, ◌⊎◌, ◌≡◌}
use Rattle.words.specs.Tests.{pick}
use Rattle.words.specs.Words.{four_at, place_of}
use Rattle.plan.specs.Plan.{zero_plan, due_of}
use Rattle.plan.specs.declared.Plan.{Plan}
use Rattle.bodies.specs.Named.{plan_of}
use Rattle.walk.specs.State.{fresh}
use Rattle.walk.specs.Walk.{walk_of}
use Rattle.walk.specs.declared.State.{State}
use Rattle.turns.specs.declared.Stop.{Stop}
use Rattle.turns.specs.declared.Stop.TheVariants.{Wait, Refused}
use Rattle.words.specs.declared.Refusal.{Refusal}
use Rattle.promises.specs.Rules.{Kind, kind_number, concat}
use Rattle.promises.specs.Newest.{Accepted}
use Rattle.promises.specs.Pieces.{used_of}
use Rattle.promises.specs.Bytes.{Bytes}

-- a state that calls begun fresh handed back, any number of them, with any budgets, open or closed, each on any bytes; and the bytes that they
-- passed, from the file's first byte on
pub data Own (kind : Kind) : State → List ℕ → Type 0 where
  begun : Own kind (fresh (kind_number kind)) []
  again : {st : State} {pre : List ℕ} → Own kind st pre → (b : ℕ) (bs : List ℕ) (c : Bool)
      → Own kind (walk_of b st bs c).state (pre ++ take (used_of b st bs c) bs)

-- some accepted file of that kind begins with these bytes
abbrev pub Starts : Kind → List ℕ → Type 0
Starts kind bs = (ys : List ℕ) × Bytes ys × Accepted kind (bs ++ ys)

-- the stop is a wait, or a refusal
abbrev pub Waits : Stop → Type 0
Waits x = (n : ℕ) × (x ≡ Wait n)

abbrev pub Refuses : Stop → Type 0
Refuses x = (r : Refusal) × (x ≡ Refused r)

-- chunks of at least twelve bytes, each of the size that its own bytes 9 to 12 say or of the length that the rules name for that record: record k
-- under the plan p, which the first chunk names
abbrev pub Chunks : ℕ → Plan → ℕ → List (List ℕ) → Type 0
Chunks kind p k [] = Unit {0}
Chunks kind p k (r ∷ rs) =
    (12 ≤ length r)
    × (((four_at r (place_of 9) ≡ length r) ⊎ (length r ≡ (due_of kind p k).length)) × Chunks kind (pick (eqb k 0) (plan_of kind r) p) (k + 1) rs)

-- the bytes, from the file's first byte on, are empty or end at a record's end
abbrev pub AtRecordEnd : Kind → List ℕ → Type 0
AtRecordEnd kind bs = (rs : List (List ℕ)) × (concat rs ≡ bs) × Chunks (kind_number kind) zero_plan 0 rs
