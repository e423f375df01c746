pub mod ByElements
pub mod ByNumbers
pub mod Effort
pub mod Methods
pub mod Overrides
