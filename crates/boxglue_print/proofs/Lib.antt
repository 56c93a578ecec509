pub mod FontLemmas
pub mod PrintLemmas
pub mod TextLemmas
pub mod ReadBackLemmas
pub mod ListedLemmas
