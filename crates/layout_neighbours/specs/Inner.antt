-- What connects the functions with the definitions; nothing here has to be believed.
pub mod Flat
pub mod Search
pub mod Arrays
