pub mod ShapingLemmas
pub mod CutLemmas
pub mod TextLemmas
pub mod GlyphLemmas
pub mod FrontLemmas
mod TextFrontLemmas
