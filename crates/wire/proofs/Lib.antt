pub mod Copies
pub mod Putting
