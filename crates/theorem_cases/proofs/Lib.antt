pub mod Shown
pub mod Farther
