pub mod Heights
pub mod Apart
pub mod Faces
