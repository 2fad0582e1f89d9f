pub mod Places
pub mod Good
