pub mod Choice
pub mod Limits
pub mod Refusal
