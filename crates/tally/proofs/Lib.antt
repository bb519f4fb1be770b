-- Laws of a tally: its tally_size (Answers), feeding (Feeding), what its counts mean (Histories), and a loop over lines (Running).
mod Places
pub mod Answers
pub mod Feeding
pub mod Histories
pub mod Running
mod Texts
