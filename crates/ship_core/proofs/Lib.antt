-- Lemmas about numbers that fit, the items of a list in order, and what is drawn for them.
pub mod Drawings
pub mod DrawnMarks
pub mod DrawnPages
pub mod DrawnBytes
pub mod DrawnPageLemmas
pub mod PushDepth
