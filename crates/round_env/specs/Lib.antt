pub mod Presence
pub mod Visits
