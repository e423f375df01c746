pub mod Crossings
pub mod Steps
pub mod Moves
