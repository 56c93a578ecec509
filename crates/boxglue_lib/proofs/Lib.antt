pub mod EndLemmas
pub mod FontLemmas
pub mod SessionLemmas
pub mod Unsaid
