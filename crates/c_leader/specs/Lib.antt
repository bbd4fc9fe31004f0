-- The specs of `c_leader`: what each call on a leader file leaves behind.
pub mod Calls
