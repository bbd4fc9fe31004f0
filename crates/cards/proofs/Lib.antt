pub mod EntryLaws
pub mod LoopLaws
pub mod NumbersLaws
