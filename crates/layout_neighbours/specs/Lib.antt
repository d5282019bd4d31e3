pub mod Neighbours
pub mod Inner
pub mod Meaning
