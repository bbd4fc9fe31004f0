-- The specs of `card_theorems`: what a card is and who gets which refusal of its reader; the numbers that a built card is to have, and who is refused one.
pub mod Card
pub mod Scene
pub mod Refused
