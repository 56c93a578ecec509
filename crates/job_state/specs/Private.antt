-- What no contract reaches that another crate or a user can call: only proofs and private functions speak of these definitions.
pub mod Characters
pub mod Loaded
pub mod Registers
pub mod Sized
pub mod SplitFaults
pub mod StateCode
