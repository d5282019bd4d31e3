pub mod Inner
pub mod Places
pub mod Records
pub mod Rows
pub mod Sessions
pub mod Meaning
