-- The specs of `c_samples`: what each call on samples leaves behind.
pub mod Calls
