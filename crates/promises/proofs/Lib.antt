pub mod AnyInput
pub mod Tree
pub mod Frames
pub mod Recordings
pub mod Whole
