-- What no contract reaches that another crate or a user can call: only proofs and private functions speak of these definitions.
pub mod Costs
pub mod Live
pub mod Marks
pub mod Parts
pub mod SmallMarks
pub mod Tables
