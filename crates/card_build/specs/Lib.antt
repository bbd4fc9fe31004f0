-- The specs of `card_build`: the bytes of a card, the builder's answer, and its words.
pub mod Build
pub mod Said
