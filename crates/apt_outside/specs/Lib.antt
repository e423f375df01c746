pub mod Count
pub mod Plan
pub mod Files
pub mod Child
pub mod Stream
pub mod Held
pub mod Scripted
