pub mod Chained
pub mod Fans
pub mod Rings
pub mod Meaning
