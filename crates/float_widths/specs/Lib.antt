pub mod Narrow
pub mod Meaning
pub mod Examples
