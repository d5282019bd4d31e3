pub mod Points
pub mod Pulkki
pub mod Rows
pub mod Speakers
