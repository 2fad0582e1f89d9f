pub mod Lent
pub mod Places
pub mod Settled
pub mod Stepping
pub mod Walking
pub mod Scanning
pub mod Known
