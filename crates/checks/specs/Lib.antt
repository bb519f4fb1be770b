-- The one way from a content to an answer: how it is read, what is found in it, and what is answered.
pub mod Reading
pub mod Check
