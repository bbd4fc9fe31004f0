-- The proofs of `promises`: the walk's judgements are the rules, and the three demands.

-- a walk turn by turn, for any state and bytes: counts, budgets, pieces, which refusals there are, and that they stay
pub mod Steps
pub mod Turns
pub mod Counted
pub mod Enough
pub mod Starts
pub mod Pieces
pub mod Stays
pub mod Eleven
pub mod Two
-- the rules by themselves, at any edition
pub mod Uniform
pub mod AnyEdition
pub mod Widened
-- the tests of a record are the rules for it: of its parts, of each first record, of the records behind it
pub mod Each
pub mod Parts
pub mod Sorts
pub mod FirstVolume
pub mod FirstLeader
pub mod FirstImage
pub mod FirstTrailer
pub mod FirstIs
pub mod BodyIs
pub mod Runs
pub mod LaterIs
pub mod Least
-- demand 2: complete exactly on the accepted files, and the plan is what the first record says
pub mod Passing
pub mod Accepts
pub mod Trailer
pub mod Decided
pub mod Records
pub mod FirstPasses
pub mod PlanNamed
-- demand 3: a good state can be completed, so an arriving file waits exactly where some accepted file begins with it
pub mod Made
pub mod WitnessFirst
pub mod WitnessLater
pub mod Completed
pub mod Own
pub mod Arriving
pub mod Ends
-- lines, rows, sets and the listing
pub mod LineNamed
pub mod LinesApart
pub mod LineStays
pub mod RowNamed
pub mod AcceptedLines
pub mod SetAgrees
pub mod ListingIs
pub mod ListingNamed
pub mod ListingSome
-- the demands bite: ours meets them, wrong programs do not
pub mod Bites
pub mod BitesOpen
pub mod BitesRows
-- the promises in the words of document 01
pub mod InWords
