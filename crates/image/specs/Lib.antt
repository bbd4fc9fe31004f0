-- The specs of `image`: the tests of its records.
pub mod Image
