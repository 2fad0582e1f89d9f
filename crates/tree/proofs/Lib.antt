pub mod Dimension
pub mod Runs
pub mod Places
pub mod Lookups
pub mod Halves
pub mod Distances
