pub mod Walks
pub mod Numbers
pub mod Named
