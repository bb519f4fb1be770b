-- The strict GLN, and the withdrawn codes.
pub mod Gln
pub mod Codes
