pub mod Greatest
pub mod Inner
pub mod Meaning
