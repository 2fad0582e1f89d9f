pub mod Shell
pub mod Pieces
