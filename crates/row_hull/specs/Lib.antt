pub mod HullRow
pub mod Inner
pub mod Meaning
