pub mod Root
pub mod Meaning
pub mod Examples
