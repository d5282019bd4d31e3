pub mod Rows
pub mod Laid
pub mod Verdicts
pub mod Turns
pub mod Meaning
pub mod Divided
pub mod Square
