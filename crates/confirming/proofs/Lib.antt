pub mod Confirming
pub mod Steps
