-- What a text looks like.
pub mod Form
pub mod Table
pub mod Meaning
