pub mod Declarations
pub mod Legality
pub mod Members
pub mod NumbersLemmas
pub mod Openings
pub mod Spelled
pub mod Types
pub mod Values
