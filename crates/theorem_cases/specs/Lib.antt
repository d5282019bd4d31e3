pub mod Table
pub mod Farther
