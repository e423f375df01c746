pub mod Elements
pub mod Fields
pub mod Forms
pub mod Identifiers
pub mod Limits
pub mod Names
pub mod Readings
pub mod formers
