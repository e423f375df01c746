pub mod Assignable
pub mod Numbers
pub mod Subsignature
pub mod Subtypes
