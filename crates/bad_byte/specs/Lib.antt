-- The specs of `bad_byte`: the first bad byte of a field by the grammar, and the columns by which it is found.
pub mod BadByte
pub mod Columns
