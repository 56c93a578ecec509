-- Lemmas on the cost of a line.
-- Lemmas on places and lines of nodes.
-- Lemmas on lists of breaks.
pub mod Costs
pub mod Bounds
pub mod Widths
pub mod Parts
pub mod Places
pub mod KeptSums
pub mod Smalls
pub mod Amounts
pub mod Walks
pub mod Tallest
pub mod KeptSteps
pub mod Marked
pub mod Rising
pub mod Steadiness
pub mod Divided
pub mod Looseness
pub mod Evenness
pub mod Ends
pub mod Refusals
pub mod Entries
pub mod Dictionary
pub mod Since
pub mod Lists
pub mod Reached
pub mod Rows
pub mod Bellman
pub mod Comparing
pub mod BestEnds
pub mod Live
pub mod TableParts
