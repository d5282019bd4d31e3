pub mod Counts
pub mod Turns
pub mod Examples
