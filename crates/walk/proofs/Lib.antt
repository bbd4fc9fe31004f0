pub mod GoodLaws
pub mod TurnLaws
pub mod LoopLaws
pub mod AheadLaws
pub mod KeptLaws
pub mod BegunLaws
