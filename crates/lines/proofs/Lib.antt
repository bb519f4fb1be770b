-- Laws of lines and their answers.
pub mod Heads
pub mod Splits
pub mod Feeding
