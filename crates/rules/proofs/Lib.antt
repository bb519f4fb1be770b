-- Laws of the rules: what they detect (Detection), what holds of every rule (Every), and what the code's own proofs cite.
mod Schemes
pub mod Every
pub mod Detection
