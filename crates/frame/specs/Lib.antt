pub mod Numbers
pub mod Frame
pub mod Timing
pub mod Parts
pub mod Shapes
