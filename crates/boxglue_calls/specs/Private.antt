-- What no contract reaches that another crate or a user can call: only proofs and private functions speak of these definitions.
pub mod KeptCode
pub mod MarkFiles
pub mod MarkRows
pub mod MetricPlaces
pub mod Owned
