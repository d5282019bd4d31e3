pub mod Limits
pub mod Operations
pub mod Vector
pub mod Speakers
pub mod Pulkki
