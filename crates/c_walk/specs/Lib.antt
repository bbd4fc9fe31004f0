-- The specs of `c_walk`: what each call of the walk leaves behind.
pub mod Calls
