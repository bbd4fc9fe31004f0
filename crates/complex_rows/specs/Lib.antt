-- The specs of `complex_rows`: what the complex row copy writes.
pub mod Parts
