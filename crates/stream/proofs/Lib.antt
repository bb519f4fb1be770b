-- Laws of the stream: what turns write, whatever the chunks (Chunks).
mod Small
mod Texts
mod Windows
mod Turns
pub mod Chunks
