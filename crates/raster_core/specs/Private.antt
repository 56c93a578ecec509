-- What no contract reaches that another crate or a user can call: only proofs and private functions speak of these definitions.
pub mod Bitmaps
pub mod PackedRows
pub mod RowPieces
pub mod Words
