-- The answer: what its numbers stand for, and which records are answers.
pub mod Numbers
pub mod Answers
pub mod Text
