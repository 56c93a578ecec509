pub mod SelectLemmas
pub mod StepLemmas
pub mod PointerLemmas
pub mod WalkLemmas
mod HeldLemmas
pub mod SeenLemmas
mod SeenItemLemmas
pub mod TextLemmas
pub mod AgainLemmas
mod CheckedLemmas
mod ShownLemmas
mod Walks
mod CharacterLemmas
mod LineLemmas
mod OnePageLemmas
mod MarkLines
mod HeadLemmas
pub mod MarkLemmas
mod NextLines
mod PartLemmas
pub mod FaultLemmas
pub mod OpenLemmas
