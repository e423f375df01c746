pub mod ElementValues
pub mod Remembered
pub mod Values
