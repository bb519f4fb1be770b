-- A tally: counts over lines.
pub mod Cell
pub mod Tally
pub mod Text
pub mod Meaning
pub mod Inner
