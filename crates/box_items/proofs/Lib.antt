-- Lemmas about the rows of a box.
pub mod Buffers
pub mod Listed
pub mod Placed
pub mod ShownLaws
pub mod Wrapped
