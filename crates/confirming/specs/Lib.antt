pub mod Step
pub mod Pieces
