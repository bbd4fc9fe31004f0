-- The edition of the rules: what the change requests (document 02) widen, each choice one field of a record. Assumes nothing.
use Rattle.std.specs.Prelude.{ℕ, ◌≤◌, ◌≡◌, Bool, true, false}

-- the choices in which one edition differs from another
pub record Edition : Type 0 where
  -- the last image sort that there is: 0 counts (document 01), 1 complex samples too (document 02, No. 2)
  pub sorts : ℕ
  -- whether blanks may stand behind the sign of an F or E field (document 02, No. 4)
  pub gaps : Bool

-- document 01's rules
abbrev pub base : Edition
base = record { sorts = 0; gaps = false }

-- the rules that the product keeps: those of the newest edition
abbrev pub newest : Edition
newest = record { sorts = 1; gaps = true }

-- an edition f allows whatever e does
pub record Wider (e f : Edition) : Type 0 where
  pub sorts : e.sorts ≤ f.sorts
  pub gaps : e.gaps ≡ true → f.gaps ≡ true
