pub mod Sessions
pub mod Steps
pub mod Heard
pub mod Pieces
pub mod Speaking
pub mod LastWords
pub mod Served
