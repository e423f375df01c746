pub mod Canonical
pub mod Modifiers
pub mod Nodes
pub mod Shown
pub mod SimpleNames
pub mod Walk
pub mod Written
