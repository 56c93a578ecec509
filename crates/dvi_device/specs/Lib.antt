pub mod Written
pub mod Held
pub mod Fused
pub mod Resumed
pub mod Beginnings
pub mod Pasts
pub mod Seen
pub mod Private
