pub mod Triplets
pub mod Inner
pub mod Meaning
pub mod Divided
