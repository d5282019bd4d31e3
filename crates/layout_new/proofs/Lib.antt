pub mod Speakers
pub mod Laid
pub mod Hulls
pub mod Slots
pub mod Fits
pub mod Answers
pub mod Building
