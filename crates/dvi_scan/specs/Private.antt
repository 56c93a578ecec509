-- What no contract reaches that another crate or a user can call: only proofs and private functions speak of these definitions.
pub mod AfterPost
pub mod Chain
pub mod Closing
pub mod Drawing
pub mod FirstDefinitions
pub mod View
