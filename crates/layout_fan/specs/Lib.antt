pub mod Fan
pub mod Inner
pub mod Meaning
