-- Lines: what a line says, what is answered, and a text as lines.
pub mod Line
pub mod Lines
pub mod Inner
