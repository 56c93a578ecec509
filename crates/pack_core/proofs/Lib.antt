-- Lemmas on sums, greatest sizes and the setting of glue.
pub mod Sums
pub mod Passing
pub mod Measured
pub mod Downward
pub mod Composed
pub mod Steps
pub mod Walks
pub mod Front
pub mod Edge
pub mod Highest
pub mod Packing
