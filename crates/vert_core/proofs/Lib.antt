-- Lemmas on lists that are shortened again.
-- Lemmas on the items that lines keep and add.
-- Lemmas on sums, trials and the parts of a list.
pub mod Shortened
pub mod KeptItems
pub mod Measured
pub mod Stacks
pub mod Filled
pub mod PlainItems
pub mod PlannedLines
pub mod PlannedOrder
pub mod Nesting
pub mod AppendedLines
pub mod Endings
pub mod LeastLists
pub mod Settings
pub mod SettingIs
pub mod Unbroken
pub mod Unset
pub mod TrialSums
pub mod BadLines
pub mod SpanLines
pub mod Walks
pub mod Openings
pub mod Search
pub mod Specials
pub mod Ends
pub mod Rests
pub mod Choices
