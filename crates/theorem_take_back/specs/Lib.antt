pub mod Demand3
pub mod Laid
pub mod Numbers
pub mod Instances
pub mod Bits
