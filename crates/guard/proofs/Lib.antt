-- Laws of the withdrawn codes.
pub mod Rows
