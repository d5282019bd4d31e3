pub mod Signs
pub mod Scaled
pub mod Heights
pub mod Apart
