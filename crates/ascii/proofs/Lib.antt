-- Laws that every crate above may cite.
pub mod Tests
pub mod Class
pub mod Same
pub mod Area
pub mod Pick
