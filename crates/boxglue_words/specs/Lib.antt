pub mod CommandLine
pub mod Pairs
pub mod Tasks
pub mod Readings
pub mod Hosts
pub mod HostInMemory
pub mod Private
