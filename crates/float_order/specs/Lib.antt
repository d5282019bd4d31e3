pub mod Values
pub mod Order
pub mod Remainder
pub mod Examples
pub mod Width
