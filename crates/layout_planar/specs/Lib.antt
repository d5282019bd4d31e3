pub mod Planar
pub mod Inner
pub mod Constants
