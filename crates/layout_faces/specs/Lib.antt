pub mod Faces
pub mod Inner
