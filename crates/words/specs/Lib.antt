-- The specs of `words`: numbers of several bytes, tests, and the words in which answers are given.
pub mod Words
pub mod Tests
pub mod Answer
pub mod Examples
