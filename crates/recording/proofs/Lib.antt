pub mod Sums
pub mod Sizes
pub mod Tables
pub mod Survives
pub mod Tests
