pub mod Tellings
mod Walks
pub mod Resumptions
pub mod PastLaws
