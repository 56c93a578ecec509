pub mod Jobs
pub mod Shown
pub mod Closing
pub mod Sent
pub mod Headline
pub mod GlyphWidths
pub mod Private
