pub mod Placing
pub mod Storing
pub mod Intake
pub mod OnWords
