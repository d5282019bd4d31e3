pub mod Order
pub mod Inner
pub mod Meaning
