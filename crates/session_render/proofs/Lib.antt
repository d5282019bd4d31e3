pub mod Numbers
pub mod Rows
pub mod Mixing
pub mod Answers
