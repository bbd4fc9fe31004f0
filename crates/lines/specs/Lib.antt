-- The specs of `lines`: what a line view shows, and the words of its answers.
pub mod View
pub mod Said
