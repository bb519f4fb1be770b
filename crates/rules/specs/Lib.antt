-- The seventeen rules: their facts, which of them reads a field, and what it finds in a text.
pub mod Facts
pub mod Choice
pub mod Finding
