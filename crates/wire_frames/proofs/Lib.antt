pub mod Added
pub mod Parts
pub mod Rows
pub mod Texts
pub mod Scanned
pub mod ChildFrames
pub mod Again
pub mod LimitsLemmas
