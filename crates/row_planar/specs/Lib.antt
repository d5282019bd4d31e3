pub mod PlanarRow
pub mod Meaning
