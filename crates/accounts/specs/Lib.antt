-- The IBAN and the creditor identifier: the number that a text spells, and what is found in a text.
pub mod Spelled
pub mod Rules
pub mod Inner
