-- The specs of `refusals`: the table of refusals beside `Rules`: of records and the walk, and of what is asked of an image, a set, a field or a state.
pub mod Refusals
pub mod Questions
