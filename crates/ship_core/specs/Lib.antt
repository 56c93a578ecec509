-- The marks of a page, and the instructions that draw them.
pub mod Drawing
pub mod Shown
pub mod Pushes
pub mod Private
