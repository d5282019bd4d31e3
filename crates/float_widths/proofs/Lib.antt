pub mod Examples
pub mod Grid
pub mod Meaning
pub mod Patterns
