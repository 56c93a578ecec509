pub mod Nests
pub mod ParagraphEnds
pub mod ShapedTexts
pub mod BoundedLists
pub mod FontReads
