-- The specs of `digits`: each part of a written number as a function of its bytes.
pub mod Segments
