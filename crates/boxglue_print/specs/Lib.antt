pub mod Faults
pub mod FontLines
pub mod Fonts
pub mod Outputs
pub mod ReadBack
