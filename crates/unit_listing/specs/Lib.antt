pub mod Listing
pub mod Visits
pub mod Words
