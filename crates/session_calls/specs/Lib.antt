pub mod Session
pub mod Answers
pub mod Meaning
