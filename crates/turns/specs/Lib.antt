-- The specs of `turns`: steps 3 to 7 of a turn.
pub mod Turn
