pub mod Fields
pub mod FieldsByName
pub mod Remembered
