pub mod Known
pub mod Remembered
