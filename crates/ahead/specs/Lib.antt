-- The specs of `ahead`: lines that hold what they must, one after the other.
pub mod Lines
