pub mod Walk
pub mod Patterns
