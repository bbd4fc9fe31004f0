-- The proofs of `first_records`: a plan is allowed exactly where a first record names it, and a state exactly where a walk reaches it.

-- what is written in columns is read at its place
pub mod Columns
pub mod Stands
pub mod Pairs
pub mod Headed
-- the record that is written from an allowed plan names it, kind by kind
pub mod NamedVolume
pub mod NamedLeader
pub mod NamedImage
pub mod NamedTrailer
-- the state rule: of plans in the page's inequalities, of plans both ways, of states
pub mod AllowedIs
pub mod AllowedNamed
pub mod StateRule
pub mod StateReached
