pub mod Pasted
pub mod Laid
pub mod Known
pub mod Pairs
pub mod Rows
pub mod Records
pub mod Left
pub mod Back
