pub mod Ramp
pub mod Inner
pub mod Examples
