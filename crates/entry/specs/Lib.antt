-- The specs of `entry`: the layout of an entry.
pub mod Entry
