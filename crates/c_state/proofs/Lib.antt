pub mod ListLaws
pub mod PutLaws
pub mod Back
