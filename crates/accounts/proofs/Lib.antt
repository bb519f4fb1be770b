-- Laws of the number and its remainder (Remainder).
pub mod Remainder
