pub mod Events
pub mod Acts
