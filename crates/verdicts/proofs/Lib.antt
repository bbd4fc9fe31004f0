pub mod TestLaws
pub mod FieldLaws
pub mod TextLaws
pub mod Holding
pub mod FillLaws
pub mod RowLaws
