pub mod Counted
pub mod Dotted
pub mod FieldsLemmas
pub mod NameSets
pub mod Readers
pub mod Written
