pub mod RunLaws
pub mod CodeLaws
pub mod GoodLaws
pub mod Bounds
