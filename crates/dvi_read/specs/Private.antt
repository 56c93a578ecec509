-- What no contract reaches that another crate or a user can call: only proofs and private functions speak of these definitions.
pub mod Faults
pub mod GlyphHeads
pub mod ListingParts
pub mod OnePage
pub mod OpeningParts
pub mod PageMarks
pub mod ReadFonts
pub mod Steps
pub mod Walks
pub mod SeenTexts
pub mod ShownPages
