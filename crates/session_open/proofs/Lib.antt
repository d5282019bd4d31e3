pub mod Opening
pub mod Meaning
