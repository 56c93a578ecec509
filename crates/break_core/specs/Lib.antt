-- Breaking paragraphs into lines: the passes, the chosen list of breaks, the greatest number of trials, and the table while it is filled.
pub mod Passes
pub mod Trials
pub mod Examples
pub mod Private
