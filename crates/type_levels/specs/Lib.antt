pub mod Answers
pub mod Containment
pub mod Laws
pub mod Levels
pub mod Numbered
pub mod Shown
pub mod Steps
