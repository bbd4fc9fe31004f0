pub mod FaultLaws
pub mod TurnLaws
