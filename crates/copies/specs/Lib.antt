-- The specs of `copies`: what the row copy writes, and the words of its answers.
pub mod Row
pub mod Said
