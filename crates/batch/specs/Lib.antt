-- Many lines answered at once.
pub mod Batch
pub mod Inner
