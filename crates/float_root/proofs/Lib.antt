pub mod Candidate
pub mod Examples
pub mod Fields
pub mod Meaning
pub mod Root
pub mod Sqrt
