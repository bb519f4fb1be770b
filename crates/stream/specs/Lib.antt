-- The line program: the whole output of a whole input, and the turns that write it.
pub mod Output
pub mod Turn
pub mod Inner
