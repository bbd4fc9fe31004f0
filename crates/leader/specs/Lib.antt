-- The specs of `leader`: the tests of its records and the plan's numbers that its descriptor names.
pub mod Leader
