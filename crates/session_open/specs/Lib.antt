pub mod Open
pub mod Meaning
