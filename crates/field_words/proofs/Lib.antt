pub mod Numbers
pub mod Kept
