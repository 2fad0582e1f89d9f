pub mod Fields
pub mod Pieces
