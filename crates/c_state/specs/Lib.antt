-- The specs of `c_state`: a state as 43 numbers.
pub mod Numbers
