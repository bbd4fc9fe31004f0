-- The specs of `c_card`: what each call on a card leaves behind.
pub mod Calls
