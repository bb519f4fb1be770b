-- The codice fiscale, over code points.
pub mod Integer
pub mod Codice
pub mod Meaning
pub mod Inner
