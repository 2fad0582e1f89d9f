pub mod Told
pub mod Printed
