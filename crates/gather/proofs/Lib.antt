pub mod Room
mod Copying
mod Starting
