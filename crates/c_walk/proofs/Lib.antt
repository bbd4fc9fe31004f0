pub mod StateLaws
pub mod Stays
