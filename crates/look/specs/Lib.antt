pub mod Look
pub mod Pieces
