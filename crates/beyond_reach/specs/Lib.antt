pub mod Beyond
pub mod Reached
pub mod Decided
