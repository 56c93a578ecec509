pub mod Shaping
pub mod Spaces
pub mod Texts
pub mod Private
