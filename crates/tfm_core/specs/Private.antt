-- What no contract reaches that another crate or a user can call: only proofs and private functions speak of these definitions.
pub mod FontView
pub mod Fonts
pub mod MetricFile
pub mod Rules
