pub mod JobStateView
pub mod Loaded
pub mod Private
