pub mod Limits
pub mod Inner
