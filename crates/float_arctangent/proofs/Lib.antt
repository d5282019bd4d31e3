pub mod Coefficients
pub mod NotNumbers
pub mod Trials
