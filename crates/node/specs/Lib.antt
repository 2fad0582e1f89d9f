pub mod Sums
pub mod Agree
pub mod State
pub mod Change
pub mod Answers
pub mod Calls
pub mod Barrier
