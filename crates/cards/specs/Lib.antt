-- The specs of `cards`: how the reader judges a card, the list of numbers that it gives, and the words of its answers.
pub mod Check
pub mod Said
