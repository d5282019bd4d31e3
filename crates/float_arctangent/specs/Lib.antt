pub mod Arctangent
pub mod Meaning
