pub mod Folds
pub mod Places
