pub mod Texts
pub mod Outcomes
pub mod Reports
pub mod Runs
pub mod Rows
pub mod Sessions
pub mod Private
