-- Bytes: their classes, and texts as they are written.
pub mod Pick
pub mod Class
pub mod Written
pub mod Area
