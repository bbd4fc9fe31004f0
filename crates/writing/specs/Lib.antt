-- The specs of `writing`: what is written into bytes.
pub mod Writing
