-- Tests put together: the one or the other of two answers, both of two tests, a range. Assumes nothing.
use Rattle.std.specs.Prelude.{ℕ, Bool, true, false, leb}

-- the first answer where the test holds, the second where it does not
abbrev pub pick : {A : Type 0} → Bool → A → A → A
pick true a b = a
pick false a b = b

-- both tests hold
abbrev pub both_of : Bool → Bool → Bool
both_of a b = pick a b false

-- lo ≤ x ≤ hi
abbrev pub within_of : ℕ → ℕ → ℕ → Bool
within_of lo x hi = both_of (leb lo x) (leb x hi)
