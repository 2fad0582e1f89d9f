pub mod Counted
pub mod Shells
