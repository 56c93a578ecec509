pub mod EmptiedNest
pub mod Private
