pub mod TextLaws
pub mod SpellOnce
