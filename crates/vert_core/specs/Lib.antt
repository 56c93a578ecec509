-- Vertical lists: the nodes that a box adds.
-- The items that the lines of a paragraph add to a vertical list, and the finished list of a paragraph.
-- Splitting vertical lists: the legal places, their costs, and the two parts.
pub mod Interline
pub mod Lines
pub mod Finished
pub mod Paragraphs
pub mod Rows
pub mod LeastLists
pub mod Setting
pub mod Appended
pub mod TrialBounds
pub mod Places
pub mod Costs
pub mod Split
pub mod Tails
pub mod Chosen
pub mod Laws
pub mod Private
