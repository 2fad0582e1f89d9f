pub mod Claim
pub mod Facts
pub mod LinkBytes
pub mod Printed
