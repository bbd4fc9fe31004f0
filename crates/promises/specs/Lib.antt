-- The specs of `promises`: what a file is, what is shown of it, and the demands.

-- what a file is
pub mod Edition
pub mod Rules
pub mod Newest
pub mod Bytes
-- what is shown of it, in pieces and while it arrives
pub mod Shown
pub mod Pieces
pub mod Arriving
pub mod Listing
-- the demands, records that meet the rules, and document 01's table of examples
pub mod Demands
pub mod Witness
pub mod Examples
