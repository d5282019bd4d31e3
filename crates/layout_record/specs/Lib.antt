pub mod Shape
pub mod Panner
pub mod Malformed
pub mod Meaning
