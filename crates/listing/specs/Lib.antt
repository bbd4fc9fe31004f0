-- The specs of `listing`: what each row says, and one turn of the listing.
pub mod Rows
