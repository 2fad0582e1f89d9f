pub mod Board
pub mod Fit
