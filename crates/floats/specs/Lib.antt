-- The specs of `floats`: single precision in the words of `lib.Ieee`, and worked numbers.
pub mod Floats
pub mod Examples
