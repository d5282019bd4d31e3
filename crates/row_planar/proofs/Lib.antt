pub mod Rows
pub mod Zeros
pub mod Branches
pub mod Meaning
