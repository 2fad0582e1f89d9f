pub mod Tree
pub mod Lookups
