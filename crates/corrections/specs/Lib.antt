-- Completing a body, and the list of all corrections of a refused number.
pub mod Five
pub mod Outcome
pub mod Completing
pub mod Corrections
pub mod Listing
pub mod Meaning
pub mod Inner
