-- The specs of `bodies`: the tests of each record's body in document 01's order, and the plan that a first record names.
pub mod Bodies
pub mod Named
