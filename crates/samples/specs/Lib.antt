-- The specs of `samples`: a line's samples by what the view shows, and the words of their answers.
pub mod Samples
pub mod Asked
pub mod Said
