pub mod Chosen
pub mod Places
pub mod Pairs
pub mod Constants
