pub mod Carried
pub mod Remembered
pub mod Shown
