pub mod Mixed
pub mod Examples
