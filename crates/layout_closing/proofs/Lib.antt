pub mod Points
pub mod Candidates
pub mod Lowered
pub mod Stages
pub mod Meaning
pub mod Examples
