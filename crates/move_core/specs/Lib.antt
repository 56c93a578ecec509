-- Movements written by registers.
pub mod Registers
pub mod Reused
pub mod SamePage
pub mod Examples
pub mod Private
