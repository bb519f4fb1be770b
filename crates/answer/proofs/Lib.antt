-- Laws that every crate above may cite.
pub mod Laws
pub mod Numerals
