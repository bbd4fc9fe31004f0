-- The proofs of `refusals`: the walk, the line view, the row copy, the set check, the field reader and begin refuse exactly where the rules say so.

-- tests beside rules: lists of them, the parts of a record, each record's body
pub mod Finds
pub mod PartFinds
pub mod BodyFinds
-- a turn, and the walk
pub mod Judged
pub mod AskedIs
pub mod Said
pub mod Walked
pub mod Either
-- what is asked beside the walk
pub mod Viewed
pub mod Asked
pub mod SetChecked
-- a field's verdict by number and place, whatever record its refusal names
pub mod FieldFaults
