pub mod Growing
pub mod Turns
pub mod Writing
