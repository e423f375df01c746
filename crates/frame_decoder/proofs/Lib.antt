pub mod Rooms
pub mod Wrapping
pub mod PartsScanned
pub mod Ascending
pub mod TableRows
pub mod Decoded
pub mod ReadBack
