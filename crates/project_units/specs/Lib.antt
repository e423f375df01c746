pub mod Held
pub mod Limits
pub mod Creations
pub mod Plans
pub mod Refusals
pub mod Units
pub mod Faults
pub mod Entering
