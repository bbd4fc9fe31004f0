-- The proofs of `sample_theorems`.
pub mod Pixels
pub mod Named
pub mod Asked
pub mod Stays
