pub mod Calling
pub mod Pieces
