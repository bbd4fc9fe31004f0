-- The specs of `c_answer`: an answer's five numbers, and what a call leaves behind in an array of any length.
pub mod Reply
pub mod Room
