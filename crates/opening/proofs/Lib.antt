pub mod Tags
pub mod Sizes
