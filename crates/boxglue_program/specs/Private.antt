-- What no contract reaches that another crate or a user can call: only proofs and private functions speak of these definitions.
pub mod Dialogs
pub mod NumberedLines
