mod Adding
pub mod Fitting
pub mod Places
