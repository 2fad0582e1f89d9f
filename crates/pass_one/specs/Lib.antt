pub mod Tried
pub mod Pieces
