-- The specs of `rows`: how a row of the listing is spelt.
pub mod Text
