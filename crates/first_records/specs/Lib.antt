-- The specs of `first_records`: the plans that the state rule allows, a first record written from a plan's numbers, and the states that the rule allows.
pub mod Allowed
pub mod FirstRecord
pub mod StateRule
