pub mod Spots
pub mod Pieces
