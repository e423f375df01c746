pub mod Asked
pub mod Candidates
pub mod Kinds
pub mod Lines
pub mod Patterns
pub mod Services
pub mod Turns
