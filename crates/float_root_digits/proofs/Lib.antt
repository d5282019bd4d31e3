pub mod Squares
pub mod Digits
