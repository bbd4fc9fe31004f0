pub mod LinedLaws
pub mod ViewLaws
pub mod InsideLaws
pub mod FirstLaws
pub mod FoundLaws
