-- The library's answers in plain numbers, as a program in C or Rust reads them.
pub mod Plain
