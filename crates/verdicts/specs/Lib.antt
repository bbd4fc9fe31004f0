-- The specs of `verdicts`: lists of tests, and the first that fails; number fields by document 01's byte.
pub mod Tests
pub mod Numbers
