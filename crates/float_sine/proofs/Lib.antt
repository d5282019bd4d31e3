pub mod Coefficients
pub mod Rounded
pub mod Steps
pub mod Remainder
pub mod Whole
pub mod Turns
pub mod NotNumbers
pub mod Trials
