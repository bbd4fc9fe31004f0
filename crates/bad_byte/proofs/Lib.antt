pub mod Laws
pub mod Accept
pub mod Laid
pub mod Accepted
pub mod Rebuilt
pub mod Named
