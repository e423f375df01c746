pub mod Held
pub mod Keys
pub mod Nodes
pub mod Numbers
pub mod Remembered
pub mod Replaced
