pub mod Scan
pub mod Pieces
