-- The specs of `walk`: the state rule, one turn, the walk, records passed at once, and the words of its answers.
pub mod State
pub mod Walk
pub mod Ahead
pub mod Said
