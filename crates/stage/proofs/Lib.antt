pub mod There
pub mod Lines
