pub mod PairLemmas
pub mod TaskLemmas
pub mod VersionLemmas
pub mod HostLemmas
pub mod Walks
