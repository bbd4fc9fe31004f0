pub mod Laws
pub mod Spelt
pub mod Complete
pub mod Sound
pub mod Answer
pub mod Wider
