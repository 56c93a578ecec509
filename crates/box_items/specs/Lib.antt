-- The items of a box as rows, and what the rows show.
pub mod Rows
pub mod Shown
pub mod Private
