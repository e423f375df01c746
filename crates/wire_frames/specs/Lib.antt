pub mod Frames
pub mod Outputs
pub mod Spellings
pub mod Limits
pub mod Readings
