pub mod Gather
pub mod Pieces
