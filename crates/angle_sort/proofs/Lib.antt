pub mod Insertion
pub mod Angles
pub mod FloatOrder
pub mod Equals
pub mod Meaning
pub mod Found
