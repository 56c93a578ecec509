-- Lemmas about what is written for the body of a page.
pub mod Choices
pub mod Meanings
pub mod Pruned
pub mod Tidy
pub mod ShorterBodies
pub mod Laters
pub mod Flags
pub mod FullGroups
pub mod Passing
pub mod SameBody
pub mod PlainBodies
pub mod FilePages
pub mod Apart
