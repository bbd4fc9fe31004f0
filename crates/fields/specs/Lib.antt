-- The specs of `fields`: what stands at a place, the table of listed fields, and the words of the answer.
pub mod Field
pub mod Shaped
pub mod Listed
