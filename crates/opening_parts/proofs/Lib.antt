pub mod Starts
pub mod Texts
