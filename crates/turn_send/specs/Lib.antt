pub mod Sending
pub mod Idling
