-- The specs of `headers`: what a record's first twelve bytes must be.
pub mod Header
