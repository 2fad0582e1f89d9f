pub mod Lists
pub mod Stored
pub mod Valid
pub mod Sums
pub mod Steps
pub mod Tested
pub mod Exits
