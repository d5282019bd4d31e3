pub mod Pi
pub mod Quarter
pub mod Series
pub mod Sine
pub mod Meaning
