pub mod Choice
pub mod Places
pub mod Row
pub mod Meaning
