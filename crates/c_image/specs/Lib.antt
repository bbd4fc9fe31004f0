-- The specs of `c_image`: what each call on an image leaves behind.
pub mod Calls
