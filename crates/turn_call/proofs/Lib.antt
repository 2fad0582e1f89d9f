pub mod Known
mod Tags
