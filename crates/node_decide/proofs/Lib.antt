pub mod Placing
pub mod Clauses
pub mod Turning
pub mod Handed
pub mod Due
pub mod Looking
pub mod Decided
