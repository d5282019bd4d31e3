pub mod RowSound
pub mod Silent
