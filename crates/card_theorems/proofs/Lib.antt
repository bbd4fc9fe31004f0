pub mod Entries
pub mod Parts
pub mod Once
pub mod Files
pub mod Bounds
pub mod Built
pub mod Answers
pub mod Refusing
