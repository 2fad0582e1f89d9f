pub mod Holds
pub mod Calls
pub mod Fresh
