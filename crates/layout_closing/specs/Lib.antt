pub mod Closing
pub mod Inner
pub mod Meaning
pub mod Examples
