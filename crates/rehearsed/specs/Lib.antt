pub mod Run
pub mod Fits
