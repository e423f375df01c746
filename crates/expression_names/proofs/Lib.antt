pub mod Enclosing
pub mod FieldSteps
pub mod FieldsPlaced
pub mod NamedFields
pub mod NamesSplit
