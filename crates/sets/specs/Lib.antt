-- The specs of `sets`: when files agree with their directory, and the words of that answer.
pub mod Set
pub mod Said
