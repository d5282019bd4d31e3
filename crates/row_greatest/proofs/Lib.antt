pub mod Places
pub mod Tops
pub mod Passed
pub mod Eights
pub mod Found
pub mod Meaning
