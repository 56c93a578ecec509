-- What no contract reaches that another crate or a user can call: only proofs and private functions speak of these definitions.
pub mod BoxCodes
pub mod Codes
pub mod Falls
pub mod Nodes
