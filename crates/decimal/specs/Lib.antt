-- The specs of `decimal`: what a reader must believe (Grammar, Forms), how the code finds it (Scan), and worked examples.
pub mod Grammar
pub mod Forms
pub mod Written
pub mod Scan
pub mod Text
pub mod Examples
pub mod Answer
