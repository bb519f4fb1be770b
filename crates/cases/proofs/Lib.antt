-- docs/RULES.md, Cases on both sides: those in bold are proved, all others are run.
pub mod Paper
