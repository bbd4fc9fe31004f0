pub mod NumeralLaws
pub mod WrittenLaws
