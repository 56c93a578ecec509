-- Lemmas on lists of nodes, and on their items.
pub mod NodeLemmas
pub mod Leaves
pub mod FreeSlots
