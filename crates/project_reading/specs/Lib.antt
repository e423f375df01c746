pub mod Configuration
pub mod Project
pub mod Verdicts
pub mod Endings
pub mod Entering
