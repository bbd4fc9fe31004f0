pub mod TableLaws
pub mod FillLaws
pub mod PairLaws
