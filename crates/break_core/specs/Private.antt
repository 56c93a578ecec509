-- What no contract reaches that another crate or a user can call: only proofs and private functions speak of these definitions.
pub mod Active
pub mod Filling
pub mod Offers
pub mod LeftOut
pub mod Held
pub mod Near
